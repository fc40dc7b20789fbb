use Rattle.std.proofs.Common.{get_or}
use Rattle.std.specs.Prelude.{slice_index}
use Rattle.aps_model.specs.Limits.{most_partitions}
use Rattle.view_samples.proofs.Fill.{IsFilled}
use Rattle.view_pictures.specs.Scale.{depth_of}
use Rattle.view_pictures.proofs.group.begins_at.Given as goal

abbrev pub invariant-loop-p : goal.invariant-loop-p
invariant-loop-p l = IsFilled (λ k. depth_of (slice_index l.sample.usage.used k) l.whole (get_or l.tops k 0)) 0 most_partitions l.p l.begins
