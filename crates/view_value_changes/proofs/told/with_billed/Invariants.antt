use Rattle.std.proofs.Common.{◌||◌, slice_index_or, false}
use Rattle.aps_model.specs.Limits.{most_partitions}
use Rattle.view_samples.specs.Picks.{bills}
use Rattle.view_samples.proofs.Fill.{IsFilled}
use Rattle.view_value_changes.proofs.told.with_billed.Given as goal

abbrev pub invariant-loop-p : goal.invariant-loop-p
invariant-loop-p l = IsFilled (λ p. bills l.pick p || slice_index_or l.ready p false) false most_partitions l.p l.all
