use Rattle.std.proofs.Common.{◌≡◌}
use Rattle.aps_bound.specs.Worst.{with_partitions}
use Rattle.aps_bound.proofs.worst.with_partitions.Given as goal

abbrev pub invariant-loop-p : goal.invariant-loop-p
invariant-loop-p l = l.audit ≡ with_partitions l.history l.initial.audit l.a l.p
