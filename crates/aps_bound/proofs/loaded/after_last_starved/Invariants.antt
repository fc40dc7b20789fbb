use Rattle.std.proofs.Common.{◌≤◌, length}
use Rattle.aps_bound.proofs.Steadiness.{AreNotStarvedFrom}
use Rattle.aps_bound.proofs.loaded.after_last_starved.Given as goal

abbrev pub invariant-loop-left : goal.invariant-loop-left
invariant-loop-left l = record {
  within : l.left ≤ length l.entries;
  none : AreNotStarvedFrom l.left l.tick l.entries l.count;
}

abbrev pub decreases-loop-left : goal.decreases-loop-left
decreases-loop-left l = l.left
