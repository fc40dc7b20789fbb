use Rattle.std.proofs.Common.{None, sym, ◌∙◌}
use Rattle.aps_inherit.proofs.order.Order.take_out.Goals as goal
use Rattle.aps_inherit.proofs.Chains.{IsLinked-listed, listed-linked, take_out_linked, without-absent}

pub returns-in_default : goal.returns-in_default
returns-in_default c = without-absent None c.args.self.now c.args.x (sym c.link.ensures ∙ c.in_default.is)

pub invariant_of-self : goal.invariant_of-self
invariant_of-self c =
    IsLinked-listed _ _ _
    (take_out_linked c.self.inside.links.items c.set_before.new.links.items c.set_after.new.links.items
    c.self.inside.first c.next_first-self-inside.result c.args.self.now c.args.x c.index.result c.in-Some.link c.self.invariant
    c.self.view_is
    (sym c.in-Some.ensures) c.index.ensures.same c.set_before.ensures c.set_after.ensures c.next_first-self-inside.ensures)

pub returns : goal.returns
returns c =
    listed-linked _ _ _
    (take_out_linked c.self.inside.links.items c.set_before.new.links.items c.set_after.new.links.items
    c.self.inside.first c.next_first-self-inside.result c.args.self.now c.args.x c.index.result c.in-Some.link c.self.invariant
    c.self.view_is
    (sym c.in-Some.ensures) c.index.ensures.same c.set_before.ensures c.set_after.ensures c.next_first-self-inside.ensures)
