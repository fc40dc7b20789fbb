use Rattle.std.proofs.Common.{◌||◌, get_or, false}
use Rattle.aps_model.specs.Limits.{most_partitions}
use Rattle.view_samples.proofs.Fill.{IsFilled}
use Rattle.view_samples.proofs.note.either.Given as goal

abbrev pub invariant-loop-p : goal.invariant-loop-p
invariant-loop-p l = IsFilled (λ k. get_or l.a k false || get_or l.b k false) false most_partitions l.p l.all
