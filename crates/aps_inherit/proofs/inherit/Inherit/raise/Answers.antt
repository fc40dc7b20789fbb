use Rattle.aps_inherit.proofs.Values.{top_right}
use Rattle.aps_inherit.proofs.inherit.Inherit.raise.Goals as goal

pub invariant_of-self : goal.invariant_of-self
invariant_of-self c =
    c.settle_channel.ensures
    (top_right c.self.inside.content c.set_top.new.self c.self.inside.kept c.args.c c.args.top c.self.invariant c.set_top.ensures)
