use Rattle.aps_inherit.specs.Values.{nobody}
use Rattle.aps_inherit.proofs.Values.{own_right}
use Rattle.aps_inherit.proofs.inherit.Inherit.set_own.Goals as goal

pub invariant_of-self : goal.invariant_of-self
invariant_of-self c =
    c.settle.ensures nobody
    (own_right c.self.inside.content c.set_own.new.self c.self.inside.kept c.args.x c.args.own c.self.invariant c.set_own.ensures)
