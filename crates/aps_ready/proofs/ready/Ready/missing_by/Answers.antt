use Rattle.std.proofs.Common.{◌≡◌, ◌<◌, ℕ, Bool, List, Option, Some, true, false, sym, ◌∙◌, ap}
use Rattle.aps_model.specs.declared.merit.Contender.{Contender}
use Rattle.aps_model.specs.Limits.{most_partitions}
use Rattle.aps_model.specs.Pick.{missing}
use Rattle.aps_levels.specs.Bits.{set_has}
use Rattle.aps_ready.specs.Ready.{members}
use Rattle.aps_ready.proofs.Starved.{groups_occupied, starved_found, none_starved, not_past}
use Rattle.aps_ready.proofs.ready.Ready.missing_by.Goals.{in_default-via-in-Some+else-p-lt-MOST_PARTITIONS, in_default-via-in_default}
use Rattle.aps_ready.proofs.ready.Ready.missing_by.Goals as goal

clash : (t : Bool) → t ≡ true → t ≡ false → ⊥
clash t p q = cc

pub returns-in-Some : goal.returns-in-Some
returns-in-Some c parts are few =
    let row = c.self.inside.lists in
    let found = starved_found parts row c.args.gates
    c.join.result c.occupied.result c.meet-groups.result c.upper_half.result c.join-2.result c.minus-starved.result c.in-Some.p
    are (groups_occupied c.self.inside.lists c.occupied.result c.self.invariant.0 c.occupied.ensures)
    (record {
      opened = c.join.ensures;
      groups = c.meet-groups.ensures;
      upper = c.upper_half.ensures;
      held = c.join-2.ensures;
      starved = c.minus-starved.ensures;
    })
    c.if-p-lt-MOST_PARTITIONS.true c.in-Some.ensures.some.here c.in-Some.ensures.some.earlier in
    sym (ap (λ (seats : List (Option Contender)). missing parts (members seats)) (sym c.self.view_is)
    ∙ found ∙ ap (λ (p : ℕ). Some p) (sym c.at.ensures))

pub returns-in_default : goal.returns-in_default
returns-in_default c parts are few =
    let none : (k : ℕ) → k < most_partitions → set_has c.minus-starved.result k ≡ false = elim c.in_default.branch [
      | in_default-via-in-Some+else-p-lt-MOST_PARTITIONS w ↦ λ k below.
          absurd (clash (set_has c.minus-starved.result w.in-Some.p) w.in-Some.ensures.some.here
          (not_past parts c.args.gates c.join-2.result c.minus-starved.result w.in-Some.p are w.in-Some.ensures.some.below
          w.if-p-lt-MOST_PARTITIONS.false c.minus-starved.ensures))
      | in_default-via-in_default w ↦ λ k below. w.in_default.ensures.none k
    ] in
    sym (ap (λ (seats : List (Option Contender)). missing parts (members seats)) (sym c.self.view_is)
    ∙ none_starved parts c.self.inside.lists c.args.gates
    c.join.result c.occupied.result c.meet-groups.result c.upper_half.result c.join-2.result c.minus-starved.result
    are (groups_occupied c.self.inside.lists c.occupied.result c.self.invariant.0 c.occupied.ensures)
    (record {
      opened = c.join.ensures;
      groups = c.meet-groups.ensures;
      upper = c.upper_half.ensures;
      held = c.join-2.ensures;
      starved = c.minus-starved.ensures;
    })
    few none)
