use Rattle.std.proofs.Common.{get_or}
use Rattle.aps_model.specs.Limits.{most_partitions}
use Rattle.view_samples.proofs.Fill.{IsFilled}
use Rattle.view_pictures.specs.Survey.{found_with, no_found}
use Rattle.view_pictures.proofs.survey.found_with.Given as goal

abbrev pub invariant-loop-p : goal.invariant-loop-p
invariant-loop-p l = IsFilled (λ k. found_with l.sizes k (get_or l.found k no_found) l.sample) no_found most_partitions l.p l.all
