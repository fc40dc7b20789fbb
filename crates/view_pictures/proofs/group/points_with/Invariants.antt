use Rattle.std.proofs.Common.{get_or, false}
use Rattle.aps_model.specs.Limits.{most_partitions}
use Rattle.view_samples.proofs.Fill.{IsFilled}
use Rattle.view_pictures.specs.Group.{joined_points, point_of, unread_point}
use Rattle.view_pictures.proofs.group.points_with.Given as goal

abbrev pub invariant-loop-p : goal.invariant-loop-p
invariant-loop-p l = IsFilled (λ k. joined_points (get_or l.points k unread_point) (point_of l.sizes k (get_or l.tops k 0) (get_or l.lacking k false) l.sample)) unread_point most_partitions l.p l.all
