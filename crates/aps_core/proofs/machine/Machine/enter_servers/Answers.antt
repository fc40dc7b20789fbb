use Rattle.std.proofs.Common.{◌∙◌, inl, refl}
use Rattle.aps_inherit.specs.Serving.{servers}
use Rattle.aps_inherit.proofs.Values.{is_there-after, is_there-first, rest_shrinks}
use Rattle.aps_model.specs.Inherit.{inheritance_of}
use Rattle.aps_core.specs.Seats.{IsRight}
use Rattle.aps_core.proofs.Servers.{all_to_come, none_to_come, one_less}
use Rattle.aps_core.proofs.machine.Machine.enter_servers.Goals as goal

pub loop-next-init : goal.loop-next-init
loop-next-init c = record {
  chains = c.newest_server-next.ensures.chains;
  there = is_there-first (servers c.args.self.now.triples) c.newest_server-next.result c.newest_server-next.ensures.same;
  own = λ x serves. inl (all_to_come c.args.self.now.triples x c.newest_server-next.result c.newest_server-next.ensures.same serves);
  seated = c.requires.seated;
  right = λ y was. was;
  count = refl;
}

pub loop-next-preserved : goal.loop-next-preserved
loop-next-preserved c = record {
  chains = c.loop-next.invariant.chains;
  there = is_there-after (servers c.args.self.now.triples) c.in-Some.server c.older_server-next.result c.older_server-next.ensures;
  own = λ x serves. one_less (inheritance_of c.args.self.now) c.in-Some.server x c.loop-next.next c.older_server-next.result
      (IsRight c.args.self.now c.loop-next.ready) (IsRight c.args.self.now c.enter.new.ready)
      c.loop-next.invariant.chains c.in-Some.is c.loop-next.invariant.there c.older_server-next.ensures c.enter.ensures.own (c.enter.ensures.right x)
      (c.loop-next.invariant.own x serves);
  seated = λ y. c.enter.ensures.seated y;
  right = λ y was. c.enter.ensures.right y (c.loop-next.invariant.right y was);
  count = c.enter.ensures.count ∙ c.loop-next.invariant.count;
}

pub loop-next-smaller : goal.loop-next-smaller
loop-next-smaller c =
    rest_shrinks (inheritance_of c.args.self.now) c.in-Some.server c.loop-next.next c.older_server-next.result
    c.loop-next.invariant.chains c.in-Some.is c.loop-next.invariant.there c.older_server-next.ensures

pub returns-clause-own : goal.returns-clause-own
returns-clause-own c = λ counts x serves.
    none_to_come c.args.self.now.triples x c.loop-next.next (IsRight c.args.self.now c.loop-next.ready x) c.in_default.is (c.loop-next.invariant.own x serves)
