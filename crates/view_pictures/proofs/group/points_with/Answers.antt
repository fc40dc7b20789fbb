use Rattle.std.proofs.Common.{arith, get_or, false, ap, ◌∙◌}
use Rattle.aps_model.specs.Limits.{most_partitions}
use Rattle.view_samples.proofs.Fill.{filled_more}
use Rattle.view_pictures.specs.Group.{joined_points, point_of, unread_point}
use Rattle.view_pictures.proofs.group.points_with.Goals as goal

pub loop-p-preserved : goal.loop-p-preserved
loop-p-preserved c =
    filled_more (λ k. joined_points (get_or c.args.points.now k unread_point) (point_of c.args.sizes k (get_or c.args.tops.now k 0) (get_or c.args.lacking.now k false) c.args.sample.now)) unread_point
    most_partitions
    c.loop-p.p c.loop-p.all _ (omega arith)
    (c.joined.ensures ∙ ap (joined_points (get_or c.args.points.now c.loop-p.p unread_point)) c.point_of-next.ensures) c.loop-p.invariant
