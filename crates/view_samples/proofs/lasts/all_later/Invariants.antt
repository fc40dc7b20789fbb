use Rattle.std.proofs.Common.{get_or, false}
use Rattle.aps_model.specs.Limits.{most_partitions}
use Rattle.view_samples.specs.Passed.{later}
use Rattle.view_samples.proofs.Fill.{IsFilled}
use Rattle.view_samples.proofs.lasts.all_later.Given as goal

abbrev pub invariant-loop-p : goal.invariant-loop-p
invariant-loop-p l = IsFilled (λ k. later (get_or l.lasts k 0) (get_or l.was k false) l.j) 0 most_partitions l.p l.all
