use Rattle.std.proofs.Common.{◌≡◌, ◌<◌, ℕ, get_or, length}
use Rattle.aps_model.specs.Audit.{allowance}
use Rattle.aps_model.specs.Limits.{most_partitions}
use Rattle.aps_model.specs.Partition.{row_or_none}
use Rattle.aps_bound.proofs.allowed.allowed_of.Given as goal

abbrev pub invariant-loop-p : goal.invariant-loop-p
invariant-loop-p l = record {
  places : length l.allowed ≡ most_partitions;
  same : (k : ℕ) → k < l.p → get_or l.allowed k 0 ≡ allowance l.shape (row_or_none l.rows k).budget;
}
