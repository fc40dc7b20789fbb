use Rattle.std.proofs.Common.{◌<◌, ℕ, List, length, set, Option, None, sym, subst, arith}
use Rattle.aps_timer.specs.Buckets.{AreKept}
use Rattle.aps_timer.specs.Sleepers.{SleepsUntil}
use Rattle.aps_timer.proofs.Kept.{kept_set, placed}
use Rattle.aps_timer.proofs.Places.{taken_within}
use Rattle.aps_timer.proofs.asleep.Asleep.wake.Goals as goal

pub take-requires : goal.take-requires
take-requires c =
    let row = c.self.inside.row.items in
    let before = c.self.inside.buckets in
    placed row before.lines.items before.begin before.further c.args.x c.args.until c.self.invariant
    (subst (λ (r : List (Option ℕ)). SleepsUntil r c.args.x c.args.until) (sym c.self.view_is) c.requires)

pub invariant_of-self : goal.invariant_of-self
invariant_of-self c =
    let row = c.self.inside.row.items in
    let before = c.self.inside.buckets in
    let after = c.take.new.self in
    let within : c.args.x < length row =
    subst (λ (r : List (Option ℕ)). c.args.x < length r) (sym c.self.view_is) (taken_within c.args.self.now c.args.x c.args.until c.requires) in
    subst (λ (i : ℕ). AreKept (set row i None) after.lines.items after.begin after.further) (sym c.index.ensures.same)
    (kept_set row before.lines.items after.lines.items before.begin after.begin before.further after.further c.args.x None
    c.self.invariant within (omega arith) c.take.ensures.here c.take.ensures.others)
