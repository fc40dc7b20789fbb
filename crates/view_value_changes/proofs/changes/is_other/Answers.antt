use Rattle.std.proofs.Common.{◌<◌, ◌∙◌, length, min, subst, sym}
use Rattle.view_value_changes.specs.Changes.{changes}
use Rattle.view_value_changes.proofs.Alike.{changes_as, changes_here, not_yet}
use Rattle.view_value_changes.proofs.changes.is_other.Goals as goal

pub loop-signal-preserved : goal.loop-signal-preserved
loop-signal-preserved c =
    not_yet (changes c.args.before.now c.args.now.now) c.loop-signal.signal c.loop-signal.invariant
    (changes_as _ _ _ _ c.loop-signal-test.true c.min-signal-end.ensures _ _ _ c.index-before-signal.is c.index-now-signal.is c.is_change.ensures ∙ c.if-is_change.false)

pub returns-then-is_change : goal.returns-then-is_change
returns-then-is_change c =
    let before = c.args.before.now in
    let now = c.args.now.now in
    let k = c.loop-signal.signal in
    sym (changes_here (changes before now) k (min (length now) (length before)) (subst (λ m. k < m) c.min-signal-end.ensures c.loop-signal-test.true)
    (changes_as _ _ _ _ c.loop-signal-test.true c.min-signal-end.ensures _ _ _ c.index-before-signal.is c.index-now-signal.is c.is_change.ensures ∙ c.if-is_change.true))
