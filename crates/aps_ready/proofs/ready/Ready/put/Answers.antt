use Rattle.std.proofs.Common.{◌≡◌, ◌<◌, ◌≤◌, ◌∙◌, length, ap, sym, subst, refl, arith}
use Rattle.aps_ready.specs.declared.entrant.Entrant.{Entrant}
use Rattle.aps_ready.specs.Entrant.{entrant_at}
use Rattle.aps_ready.specs.Ready.{entrant_seat, HasThreads, IsQueued}
use Rattle.aps_ready.proofs.Queued.{seats_set, seen, seen_at, queued_set, threads_set, free_stamp, place_in_row, in_group, is_out}
use Rattle.aps_ready.proofs.Rings.{within_row}
use Rattle.aps_ready.proofs.ready.Ready.put.Goals as goal
use Rattle.aps_ready.specs.Group.{group_count}

pub enter-requires : goal.enter-requires
enter-requires c =
    let row = c.self.inside.lists in
    let e = c.entrant_of.result in
    let is = c.entrant_of.ensures.same in
    let x : e.thread ≡ c.args.x = ap (λ (f : Entrant). f.thread) is in
    let out : group_count ≤ (entrant_at row e.thread).group =
    is_out (entrant_at row e.thread) (seen_at row c.args.self.now c.args.x e.thread c.self.view_is c.requires.inside x ∙ c.requires.out) in
    record {
      group = omega (arith, ap (λ (f : Entrant). f.group) is, in_group c.args.facts c.entrant_of.ensures.partition);
      level = omega (arith, ap (λ (f : Entrant). f.level) is);
      inside = place_in_row row c.args.self.now c.args.x e.thread c.self.view_is c.requires.inside x;
      few = omega (arith, x, c.entrant_of.ensures.thread);
      out = out;
      stamp = λ y there same.
          free_stamp row c.args.self.now c.args.stamp y c.self.view_is c.requires.stamp (within_row row y there) there
          (same ∙ ap (λ (f : Entrant). f.stamp) is);
    }

pub invariant_of-self : goal.invariant_of-self
invariant_of-self c =
    let row = c.self.inside.lists in
    let e = c.entrant_of.result in
    let is = c.entrant_of.ensures.same in
    let x : e.thread ≡ c.args.x = ap (λ (f : Entrant). f.thread) is in
    let within : e.thread < length row = place_in_row row c.args.self.now c.args.x e.thread c.self.view_is c.requires.inside x in (
      subst IsQueued (sym c.enter.ensures) (queued_set row e.thread e c.self.invariant.0 within (λ g. record {
        level = omega (arith, ap (λ (f : Entrant). f.level) is);
        thread = refl;
        stamp = λ y below ne h same.
            free_stamp row c.args.self.now c.args.stamp y c.self.view_is c.requires.stamp below h (same ∙ ap (λ (f : Entrant). f.stamp) is);
      })),
      subst HasThreads (sym c.enter.ensures)
          (threads_set row e.thread e c.self.invariant.1 within (λ _. omega (arith, x, c.entrant_of.ensures.thread))),
    )

pub returns : goal.returns
returns c =
    let e = c.entrant_of in
    seats_set c.self.inside.lists c.args.self.now c.enter.new.self c.args.x e.result.thread e.result _
    c.self.view_is c.enter.ensures (ap (λ (f : Entrant). f.thread) e.ensures.same)
    (ap entrant_seat e.ensures.same ∙ seen c.args.x c.args.facts c.args.stamp e.ensures.partition e.ensures.priority)
