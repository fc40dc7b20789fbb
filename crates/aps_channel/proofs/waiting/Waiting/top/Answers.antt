use Rattle.aps_channel.proofs.Seen.{no_top, top_is}
use Rattle.aps_channel.proofs.waiting.Waiting.top.Goals as goal

pub returns-in-None : goal.returns-in-None
returns-in-None c =
    no_top c.self.inside.arrivals c.self.inside.levels c.self.inside.in_use.items c.self.inside.records c.self.inside.threads c.args.self.now c.index-2.result.now c.args.c c.index.result
    c.self.invariant.queues c.self.view_is c.index.ensures.same c.requires c.index-2.ensures c.in-None.ensures.none

pub returns-in-Some : goal.returns-in-Some
returns-in-Some c =
    top_is c.self.inside.arrivals c.self.inside.levels c.self.inside.in_use.items c.self.inside.records c.self.inside.threads c.args.self.now c.index-2.result.now c.args.c c.index.result c.in-Some.level
    c.self.invariant.queues c.self.view_is c.index.ensures.same c.requires c.index-2.ensures c.in-Some.ensures.some
