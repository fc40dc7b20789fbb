use Rattle.std.proofs.Common.{length}
use Rattle.aps_inherit.specs.Order.{IsThere, has, rest_of}
use Rattle.aps_inherit.specs.Serving.{AreChains, servers}
use Rattle.aps_inherit.specs.Values.{AreRightBut, of_channel, serves_by}
use Rattle.aps_inherit.proofs.kept.Kept.settle_channel.Given as goal

abbrev pub invariant-loop-next : goal.invariant-loop-next
invariant-loop-next l = record {
  chains : AreChains l.content.triples;
  there : IsThere (servers l.content.triples) l.next;
  right : AreRightBut (serves_by l.content l.c) l.content l.initial.self
      → AreRightBut (of_channel l.content l.c (has (rest_of (servers l.content.triples) l.next))) l.content l.self;
}

abbrev pub decreases-loop-next : goal.decreases-loop-next
decreases-loop-next l = length (rest_of (servers l.content.triples) l.next)
