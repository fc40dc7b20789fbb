use Rattle.std.proofs.Common.{◌≤◌, None, slice_set, arith}
use Rattle.aps_model.specs.Inherit.{without_server}
use Rattle.aps_channel.proofs.Served.{AreServed, ended, serves_once}
use Rattle.aps_channel.proofs.serving.Serving.end.Goals as goal

pub remove-requires-clause-there : goal.remove-requires-clause-there
remove-requires-clause-there c =
    omega (arith, serves_once c.self.inside.servers c.self.inside.held.items c.args.self.now c.args.server c.index-server.result c.self.invariant c.self.view_is c.index-server.ensures.same c.requires.serves)

left : (c : goal.After-remove) → AreServed c.remove.new.self (slice_set c.self.inside.held.items c.index-server.result None)
    (record c.args.self.now { triples = without_server c.args.self.now.triples c.args.server })
left c =
    ended c.self.inside.servers c.remove.new.self c.self.inside.held.items c.args.self.now c.args.server c.index-server.result
    c.self.invariant c.self.view_is c.index-server.ensures.same c.requires.thread c.requires.serves c.remove.ensures

pub invariant_of-self : goal.invariant_of-self
invariant_of-self c = (left c).are

pub returns : goal.returns
returns c = (left c).same
