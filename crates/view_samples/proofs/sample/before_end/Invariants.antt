use Rattle.std.proofs.Common.{nat_lt, get_or, false}
use Rattle.aps_model.specs.Limits.{most_partitions}
use Rattle.view_samples.proofs.Fill.{IsFilled}
use Rattle.view_samples.proofs.sample.before_end.Given as goal

abbrev pub invariant-loop-p : goal.invariant-loop-p
invariant-loop-p l = IsFilled (λ k. nat_lt l.first (get_or l.lasts k 0)) false most_partitions l.p l.all
