use Rattle.std.proofs.Common.{◌≡◌, ℕ, ◌<◌, ◌∙◌, List, Option, Some, None, All, ap, sym, subst, set, length, slice_index_or}
use Rattle.std.proofs.lemmas.List.{set-set}
use Rattle.std.specs.Option.{option_map}
use Rattle.aps_model.specs.declared.merit.Contender.{Contender}
use Rattle.aps_ready.specs.declared.entrant.Entrant.{Entrant}
use Rattle.aps_ready.specs.Ready.{entrant_seat, with_facts, IsStampFree}
use Rattle.aps_ready.proofs.Queued.{place_in_row, seen_at, is_in, changed_seat, free_without}
use Rattle.aps_ready.specs.Entrant.{entrant_at}
use Rattle.aps_ready.proofs.ready.Ready.change.Goals as goal
use Rattle.aps_ready.specs.Group.{group_count}

pub at-stamp-requires : goal.at-stamp-requires
at-stamp-requires c = place_in_row c.self.inside.lists c.args.self.now c.args.x c.index.result c.self.view_is c.requires.inside c.index.ensures.same

pub put-requires-clause-stamp : goal.put-requires-clause-stamp
put-requires-clause-stamp c =
    let row = c.self.inside.lists in
    let i = c.index.result in
    let within : i < length row = place_in_row row c.args.self.now c.args.x i c.self.view_is c.requires.inside c.index.ensures.same in
    let seen = seen_at row c.args.self.now c.args.x i c.self.view_is c.requires.inside c.index.ensures.same in
    let present : (entrant_at row i).group < group_count = is_in (entrant_at row i) (λ none. c.requires.present (sym seen ∙ none)) in
    subst (All (IsStampFree c.at-stamp.result.stamp))
    (ap (λ (l : List (Option Contender)). set l i None) c.self.view_is ∙ ap (λ (j : ℕ). set c.args.self.now j None) c.index.ensures.same ∙ sym c.take.ensures)
    (free_without row i c.at-stamp.result.stamp c.self.invariant.0 within present (ap (λ (e : Entrant). e.stamp) c.at-stamp.ensures))

pub returns : goal.returns
returns c =
    let row = c.self.inside.lists in
    let old = c.args.self.now in
    let i = c.index.result in
    let within : i < length row = place_in_row row old c.args.x i c.self.view_is c.requires.inside c.index.ensures.same in
    let seen : entrant_seat (entrant_at row i) ≡ slice_index_or old c.args.x None =
    seen_at row old c.args.x i c.self.view_is c.requires.inside c.index.ensures.same in
    let present : (entrant_at row i).group < group_count = is_in (entrant_at row i) (λ none. c.requires.present (sym seen ∙ none)) in
    let thread : (entrant_at row i).thread ≡ c.args.x = c.self.invariant.0.threads i within present ∙ c.index.ensures.same in
    let known : ℕ → Option Contender = λ (s : ℕ). Some (record { thread = c.args.x; facts = c.args.facts; stamp = s }) in
    c.put.ensures
    ∙ ap (λ (l : List (Option Contender)). set l c.args.x (known c.at-stamp.result.stamp)) c.take.ensures
    ∙ set-set old c.args.x None (known c.at-stamp.result.stamp)
    ∙ ap (set old c.args.x)
    (ap (λ (e : Entrant). known e.stamp) c.at-stamp.ensures ∙ changed_seat (entrant_at row i) c.args.x c.args.facts present thread
    ∙ ap (option_map (with_facts c.args.facts)) seen)
