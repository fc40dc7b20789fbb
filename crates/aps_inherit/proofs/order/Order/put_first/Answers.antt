use Rattle.aps_inherit.proofs.order.Order.put_first.Goals as goal
use Rattle.aps_inherit.proofs.Chains.{IsLinked-listed, listed-linked, put_first_linked}

pub invariant_of-self : goal.invariant_of-self
invariant_of-self c =
    IsLinked-listed _ _ _
    (put_first_linked c.self.inside.links.items c.set_before.new.links.items c.self.inside.first c.args.self.now c.args.x c.index.result
    c.self.invariant c.self.view_is c.requires c.index.ensures.same c.index.ensures.small c.set_before.ensures)

pub returns : goal.returns
returns c =
    listed-linked _ _ _
    (put_first_linked c.self.inside.links.items c.set_before.new.links.items c.self.inside.first c.args.self.now c.args.x c.index.result
    c.self.invariant c.self.view_is c.requires c.index.ensures.same c.index.ensures.small c.set_before.ensures)
