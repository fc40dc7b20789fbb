use Rattle.std.proofs.Common.{◌||◌, not, get_or, false}
use Rattle.aps_model.specs.Limits.{most_partitions}
use Rattle.view_samples.specs.Picks.{bills}
use Rattle.view_samples.proofs.Fill.{IsFilled}
use Rattle.view_samples.proofs.look.neither.Given as goal

abbrev pub invariant-loop-p : goal.invariant-loop-p
invariant-loop-p l = IsFilled (λ k. not (bills l.pick k || get_or l.others k false)) false most_partitions l.p l.all
