use Rattle.aps_bound.specs.Order.{IsBoundary}
use Rattle.aps_bound.proofs.Rising.{IsOrderedTo}
use Rattle.aps_bound.proofs.order.is_in_order.Given as goal

abbrev pub invariant-loop-e : goal.invariant-loop-e
invariant-loop-e l = record {
  ordered : IsOrderedTo l.tick l.entries l.e-index l.last;
  boundary : IsBoundary l.tick l.boundary;
}
