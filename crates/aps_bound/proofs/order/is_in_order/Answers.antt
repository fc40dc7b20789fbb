use Rattle.std.proofs.Common.{rules}
use Rattle.aps_bound.proofs.Rising.{ordered_more}
use Rattle.aps_bound.proofs.order.is_in_order.Goals as goal

pub loop-e-preserved : goal.loop-e-preserved
loop-e-preserved c =
    let follows = c.follows.ensures.0 c.if-not-follows.false in
    let within = c.boundary_for-boundary.ensures.same.0 follows.1 in
    record {
      ordered = search (rules, ordered_more, follows.0, within);
      boundary = c.boundary_for-boundary.ensures.boundary;
    }
