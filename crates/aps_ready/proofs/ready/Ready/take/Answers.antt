use Rattle.std.proofs.Common.{◌<◌, ◌∙◌, None, length, sym, subst, refl, arith}
use Rattle.aps_ready.specs.Entrant.{entrant_at, vacant}
use Rattle.aps_ready.specs.Ready.{HasThreads, IsQueued}
use Rattle.aps_ready.proofs.Queued.{seats_set, seen_at, queued_set, threads_set, place_in_row, is_in}
use Rattle.aps_ready.proofs.ready.Ready.take.Goals as goal

pub leave-requires : goal.leave-requires
leave-requires c =
    let row = c.self.inside.lists in
    let i = c.index.result in
    record {
      inside = place_in_row row c.args.self.now c.args.x i c.self.view_is c.requires.inside c.index.ensures.same;
      there = is_in (entrant_at row i)
          (λ none. c.requires.present (sym (seen_at row c.args.self.now c.args.x i c.self.view_is c.requires.inside c.index.ensures.same) ∙ none));
    }

pub invariant_of-self : goal.invariant_of-self
invariant_of-self c =
    let row = c.self.inside.lists in
    let i = c.index.result in
    let within : i < length row = place_in_row row c.args.self.now c.args.x i c.self.view_is c.requires.inside c.index.ensures.same in (
      subst IsQueued (sym c.leave.ensures) (queued_set row i vacant c.self.invariant.0 within (λ g. absurd (omega (arith, g)))),
      subst HasThreads (sym c.leave.ensures) (threads_set row i vacant c.self.invariant.1 within (λ g. absurd (omega (arith, g)))),
    )

pub returns : goal.returns
returns c =
    seats_set c.self.inside.lists c.args.self.now c.leave.new.self c.args.x c.index.result vacant None
    c.self.view_is c.leave.ensures c.index.ensures.same refl
