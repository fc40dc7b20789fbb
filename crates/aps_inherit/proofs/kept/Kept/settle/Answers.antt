use Rattle.aps_inherit.proofs.Values.{all_settled, settled_step, steps_left-next}
use Rattle.aps_inherit.proofs.kept.Kept.settle.Goals as goal

pub loop-next-preserved : goal.loop-next-preserved
loop-next-preserved c =
    λ late right. settled_step c.args.content.now c.loop-next.self c.set.new.self c.in-Some.x c.values_by-values.result c.at.result
    c.is_same-same.result c.loop-next.next c.server_of-above.result c.unless-next.result late
    c.server_of-above.ensures.chains c.in-Some.is c.set.ensures.inside c.values_by-values.ensures c.at.ensures
    c.is_same-same.ensures.0 c.server_of-above.ensures.same c.unless-next.ensures c.set.ensures.same
    (c.loop-next.invariant late right)

pub loop-next-smaller : goal.loop-next-smaller
loop-next-smaller c =
    rw c.in-Some.is
    (steps_left-next c.args.content.now.triples c.in-Some.x c.is_same-same.result c.server_of-above.result c.unless-next.result
    c.server_of-above.ensures.chains c.server_of-above.ensures.same c.unless-next.ensures)

pub returns : goal.returns
returns c =
    λ late right. all_settled c.args.content.now c.loop-next.self c.loop-next.next late c.in_default.is (c.loop-next.invariant late right)
