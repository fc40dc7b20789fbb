use Rattle.std.proofs.Common.{length, ap}
use Rattle.aps_inherit.proofs.Opening.{inheritance_of-opening}
use Rattle.aps_inherit.proofs.content.Content.new.Goals as goal

pub returns-clause-same : goal.returns-clause-same
returns-clause-same c =
    inheritance_of-opening c.args.scenario.now c.threads.result.now (length c.channels.result.now) c.in_ok-own.own.items
    c.in_ok-triples.triples c.in_ok-tops.tops.items
    c.threads.ensures.same (ap (λ l. length l) c.channels.ensures.same) c.in_ok-own.ensures c.in_ok-triples.ensures c.in_ok-tops.ensures
