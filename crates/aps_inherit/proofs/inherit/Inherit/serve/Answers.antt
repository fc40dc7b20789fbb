use Rattle.std.proofs.Common.{ap}
use Rattle.aps_model.specs.SchedulerState.{Triple}
use Rattle.aps_inherit.specs.Values.{nobody}
use Rattle.aps_inherit.proofs.Values.{served_right}
use Rattle.aps_inherit.proofs.inherit.Inherit.serve.Goals as goal

pub invariant_of-self : goal.invariant_of-self
invariant_of-self c =
    c.settle.ensures nobody
    (served_right c.self.inside.content c.add.new.self c.self.inside.kept c.new.result c.args.server c.self.invariant
    (ap (λ (t : Triple). t.server) c.new.ensures) c.add.ensures)
