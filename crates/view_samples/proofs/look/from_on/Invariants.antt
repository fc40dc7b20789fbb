use Rattle.std.proofs.Common.{nat_le, false}
use Rattle.aps_model.specs.Limits.{most_partitions}
use Rattle.view_samples.proofs.Fill.{IsFilled}
use Rattle.view_samples.proofs.look.from_on.Given as goal

abbrev pub invariant-loop-p : goal.invariant-loop-p
invariant-loop-p l = IsFilled (λ k. nat_le l.first k) false most_partitions l.p l.all
