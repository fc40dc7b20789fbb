use Rattle.std.proofs.Common.{◌≡◌, ◌≤◌, length, take}
use Rattle.aps_model.specs.Due.{last_to}
use Rattle.aps_bound.proofs.finished.last_end.Given as goal

-- no entry from here on is the processor's
abbrev pub invariant-loop-left : goal.invariant-loop-left
invariant-loop-left l = record {
  within : l.left ≤ length l.entries;
  same : last_to (take l.left l.entries) l.cpu ≡ last_to l.entries l.cpu;
}

abbrev pub decreases-loop-left : goal.decreases-loop-left
decreases-loop-left l = l.left
