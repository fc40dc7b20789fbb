use Rattle.aps_model.specs.Audit.{allowance}
use Rattle.aps_model.specs.Limits.{most_partitions}
use Rattle.aps_model.specs.Partition.{row_or_none}
use Rattle.view_samples.proofs.Fill.{IsFilled}
use Rattle.view_samples.proofs.note.allowances.Given as goal

abbrev pub invariant-loop-p : goal.invariant-loop-p
invariant-loop-p l = IsFilled (λ k. allowance l.shape (row_or_none l.rows k).budget) 0 most_partitions l.p l.allowed
