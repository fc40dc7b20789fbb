use Rattle.std.proofs.Common.{◌≡◌}
use Rattle.aps_bound.specs.Worst.{with_partitions}
use Rattle.aps_bound.proofs.worst.is_no_worse.Given as goal

abbrev pub invariant-loop-p : goal.invariant-loop-p
invariant-loop-p l = with_partitions l.history l._audit l._a l.p ≡ l._audit
