use Rattle.std.proofs.Common.{None, arith}
use Rattle.aps_inherit.proofs.order.Order.new.Goals as goal
use Rattle.aps_inherit.proofs.Chains.{IsLinked-listed, IsLinked-none, listed-linked}

pub invariant_of-result : goal.invariant_of-result
invariant_of-result c =
    IsLinked-listed c.loop.links.items None _ (IsLinked-none c.loop.links.items c.loop.counter c.loop.invariant (omega arith))

pub returns : goal.returns
returns c =
    listed-linked c.loop.links.items None _ (IsLinked-none c.loop.links.items c.loop.counter c.loop.invariant (omega arith))
