use Rattle.std.proofs.Common.{get_or}
use Rattle.aps_model.specs.Limits.{most_partitions}
use Rattle.view_samples.proofs.Fill.{IsFilled}
use Rattle.view_pictures.specs.Scale.{top_of_scale}
use Rattle.view_pictures.specs.Survey.{no_found}
use Rattle.view_pictures.proofs.group.tops_of.Given as goal

abbrev pub invariant-loop-p : goal.invariant-loop-p
invariant-loop-p l = IsFilled (λ k. top_of_scale (get_or l.survey.found k no_found).scale) 0 most_partitions l.p l.tops
