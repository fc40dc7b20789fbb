use Rattle.aps_inherit.specs.Serving.{servers}
use Rattle.aps_inherit.proofs.Values.{channel_begins, channel_goes_on, channel_settled, is_there-after, is_there-first, rest_shrinks}
use Rattle.aps_inherit.proofs.kept.Kept.settle_channel.Goals as goal

pub loop-next-init : goal.loop-next-init
loop-next-init c = record {
  chains = c.newest-next.ensures.chains;
  there = is_there-first (servers c.args.content.now.triples) c.newest-next.result c.newest-next.ensures.same;
  right = channel_begins c.args.content.now c.args.self.now c.args.c c.newest-next.result c.newest-next.ensures.same;
}

pub loop-next-preserved : goal.loop-next-preserved
loop-next-preserved c = record {
  chains = c.loop-next.invariant.chains;
  there = is_there-after (servers c.args.content.now.triples) c.in-Some.server c.older-next.result c.older-next.ensures;
  right = λ begun.
      channel_goes_on c.args.content.now c.loop-next.self c.settle_if_by.new.self c.args.c c.in-Some.server c.loop-next.next
      c.older-next.result
      c.loop-next.invariant.chains c.in-Some.is c.loop-next.invariant.there c.older-next.ensures c.settle_if_by.ensures
      (c.loop-next.invariant.right begun);
}

pub loop-next-smaller : goal.loop-next-smaller
loop-next-smaller c =
    rest_shrinks c.args.content.now c.in-Some.server c.loop-next.next c.older-next.result
    c.loop-next.invariant.chains c.in-Some.is c.loop-next.invariant.there c.older-next.ensures

pub returns : goal.returns
returns c =
    λ begun. channel_settled c.args.content.now c.loop-next.self c.args.c c.loop-next.next c.in_default.is
    (c.loop-next.invariant.right begun)
