use Rattle.std.proofs.Common.{◌≡◌, length}
use Rattle.aps_model.specs.Limits.{most_partitions}
use Rattle.aps_bound.specs.Limits.{AreLimits}
use Rattle.aps_bound.proofs.limits.limits_of.Given as goal

abbrev pub invariant-loop-p : goal.invariant-loop-p
invariant-loop-p l = record {
  places : length l.limits ≡ most_partitions;
  are : AreLimits l.history l.audit l.limits;
}
