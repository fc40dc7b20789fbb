use Rattle.std.proofs.Common.{◌∙◌, ap, None}
use Rattle.aps_inherit.proofs.order.Order.after.Goals as goal
use Rattle.aps_inherit.specs.Links.{after_link}
use Rattle.aps_inherit.proofs.Chains.{after_in-link}

pub returns-in-None : goal.returns-in-None
returns-in-None c = ap after_link c.in-None.ensures ∙ after_in-link None c.args.self.now c.args.x

pub returns-in-Some : goal.returns-in-Some
returns-in-Some c = ap after_link c.in-Some.ensures ∙ after_in-link None c.args.self.now c.args.x
