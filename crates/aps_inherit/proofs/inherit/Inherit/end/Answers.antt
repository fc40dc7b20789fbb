use Rattle.aps_inherit.specs.Values.{nobody}
use Rattle.aps_inherit.proofs.Values.{ended_right}
use Rattle.aps_inherit.proofs.inherit.Inherit.end.Goals as goal

pub invariant_of-self : goal.invariant_of-self
invariant_of-self c =
    c.settle.ensures nobody
    (ended_right c.self.inside.content c.remove.new.self c.self.inside.kept c.args.server c.self.invariant c.remove.ensures)
