use Rattle.std.proofs.Common.{◌≡◌, ◌<◌, ℕ, List, length, get_or, set, Option, None, Some, sym, subst, ◌∙◌, ap, arith}
use Rattle.aps_timer.specs.Buckets.{AreKept, IsSleeperPlaced}
use Rattle.aps_timer.specs.Sleepers.{all_due}
use Rattle.aps_timer.proofs.Due.{later_asleep}
use Rattle.aps_timer.proofs.Kept.{kept_set}
use Rattle.aps_timer.proofs.asleep.Asleep.sleep.Goals as goal

pub put-requires : goal.put-requires
put-requires c =
    let before = c.self.inside.buckets in
    let awake : get_or c.self.inside.row.items c.args.x None ≡ None = ap (λ (r : List (Option ℕ)). get_or r c.args.x None) c.self.view_is ∙ c.requires.awake in
    subst (IsSleeperPlaced before.lines.items before.begin before.further c.args.x) awake (c.self.invariant.each c.args.x (omega arith))

pub invariant_of-self : goal.invariant_of-self
invariant_of-self c =
    let row = c.self.inside.row.items in
    let before = c.self.inside.buckets in
    let after = c.put.new.self in
    let within : c.args.x < length row = subst (λ (r : List (Option ℕ)). c.args.x < length r) (sym c.self.view_is) c.requires.within in
    subst (λ (i : ℕ). AreKept (set row i (Some c.args.until)) after.lines.items after.begin after.further) (sym c.index.ensures.same)
    (kept_set row before.lines.items after.lines.items before.begin after.begin before.further after.further c.args.x (Some c.args.until)
    c.self.invariant within (omega arith) c.put.ensures.here c.put.ensures.others)

pub returns-clause-due : goal.returns-clause-due
returns-clause-due c now later =
    (λ j. all_due (set (c.self.view_is j) (c.index.ensures.same j) (Some c.args.until)) now)
    ∙ later_asleep c.args.self.now c.args.x c.args.until now c.requires.within c.requires.awake later
