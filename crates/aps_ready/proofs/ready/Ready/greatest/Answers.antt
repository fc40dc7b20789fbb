use Rattle.aps_ready.proofs.Greatest.{greatest_by}
use Rattle.aps_ready.proofs.ready.Ready.greatest.Goals as goal

pub returns-clause-greatest : goal.returns-clause-greatest
returns-clause-greatest c =
    (greatest_by c.args.free c.args.parts.now c.self.inside.lists c.look.result c.args.self.now c.self.invariant.1 c.self.invariant.0 c.self.view_is
    c.look.ensures).is

pub returns-clause-thread : goal.returns-clause-thread
returns-clause-thread c =
    (greatest_by c.args.free c.args.parts.now c.self.inside.lists c.look.result c.args.self.now c.self.invariant.1 c.self.invariant.0 c.self.view_is
    c.look.ensures).few

pub returns-clause-inside : goal.returns-clause-inside
returns-clause-inside c =
    (greatest_by c.args.free c.args.parts.now c.self.inside.lists c.look.result c.args.self.now c.self.invariant.1 c.self.invariant.0 c.self.view_is
    c.look.ensures).inside

pub returns-clause-present : goal.returns-clause-present
returns-clause-present c =
    (greatest_by c.args.free c.args.parts.now c.self.inside.lists c.look.result c.args.self.now c.self.invariant.1 c.self.invariant.0 c.self.view_is
    c.look.ensures).present
