use Rattle.std.proofs.Common.{false}
use Rattle.std.specs.Prelude.{◌&&◌, nat_lt, slice_index}
use Rattle.aps_model.specs.Limits.{most_partitions}
use Rattle.view_samples.proofs.Fill.{IsFilled}
use Rattle.view_pictures.proofs.group.lacking.Given as goal

abbrev pub invariant-loop-p : goal.invariant-loop-p
invariant-loop-p l = IsFilled (λ k. nat_lt k l.rows && nat_lt l.j (slice_index l.samples.lasts.lacked k)) false most_partitions l.p l.all
