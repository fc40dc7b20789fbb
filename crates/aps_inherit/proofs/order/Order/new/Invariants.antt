use Rattle.std.proofs.Common.{◌≡◌, None, replicate}
use Rattle.aps_inherit.proofs.order.Order.new.Given as goal

abbrev pub invariant-loop : goal.invariant-loop
invariant-loop l = l.links.items ≡ replicate l.counter None
