use Rattle.aps_model.specs.declared.shape.Free.TheVariants.{Priority}
use Rattle.aps_ready.proofs.Greatest.{greatest_by}
use Rattle.aps_ready.proofs.ready.Ready.nearest.Goals as goal

pub returns-clause-greatest : goal.returns-clause-greatest
returns-clause-greatest c free there =
    (greatest_by free c.args.parts.now c.self.inside.lists c.near.result c.args.self.now c.self.invariant.1 c.self.invariant.0 c.self.view_is
    (c.near.ensures free there)).is

pub returns-clause-thread : goal.returns-clause-thread
returns-clause-thread c there =
    (greatest_by Priority c.args.parts.now c.self.inside.lists c.near.result c.args.self.now c.self.invariant.1 c.self.invariant.0 c.self.view_is
    (c.near.ensures Priority there)).few there

pub returns-clause-inside : goal.returns-clause-inside
returns-clause-inside c there =
    (greatest_by Priority c.args.parts.now c.self.inside.lists c.near.result c.args.self.now c.self.invariant.1 c.self.invariant.0 c.self.view_is
    (c.near.ensures Priority there)).inside there

pub returns-clause-present : goal.returns-clause-present
returns-clause-present c there =
    (greatest_by Priority c.args.parts.now c.self.inside.lists c.near.result c.args.self.now c.self.invariant.1 c.self.invariant.0 c.self.view_is
    (c.near.ensures Priority there)).present there
