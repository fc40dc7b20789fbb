use Rattle.std.proofs.Common.{◌∷◌, Some, slice_set}
use Rattle.aps_channel.proofs.Served.{AreServed, begun, serves_none}
use Rattle.aps_channel.proofs.serving.Serving.begin.Goals as goal

pub push_back-requires-clause-free : goal.push_back-requires-clause-free
push_back-requires-clause-free c =
    serves_none c.self.inside.servers c.self.inside.held.items c.args.self.now c.args.server c.index-server.result c.self.invariant c.self.view_is c.index-server.ensures.same c.requires.free

left : (c : goal.After-push_back) → AreServed c.push_back.new.self
    (slice_set c.self.inside.held.items c.index-server.result (Some (record { client = c.index-client.result; channel = c.index-channel.result })))
    (record c.args.self.now { triples = (record { server = c.args.server; client = c.args.client; channel = c.args.channel }) ∷ c.args.self.now.triples })
left c =
    begun c.self.inside.servers c.push_back.new.self c.self.inside.held.items c.args.self.now c.args.server c.index-server.result c.args.client c.index-client.result c.args.channel c.index-channel.result
    c.self.invariant c.self.view_is c.index-server.ensures.same c.index-client.ensures.same c.index-channel.ensures.same c.index-client.ensures.small
    c.requires.thread c.requires.free c.push_back.ensures

pub invariant_of-self : goal.invariant_of-self
invariant_of-self c = (left c).are

pub returns : goal.returns
returns c = (left c).same
