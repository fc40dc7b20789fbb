use Rattle.std.proofs.Common.{◌≡◌, ◌∙◌, ap, refl, arith}
use Rattle.std.specs.List.{sum_by, range_with_len}
use Rattle.aps_model.specs.Limits.{most_partitions}
use Rattle.view_shares.specs.Share.{time_taken_by}
use Rattle.view_shares.proofs.Folded.{sum_more}
use Rattle.view_shares.proofs.share.others.Goals as goal

pub loop-q-preserved : goal.loop-q-preserved
loop-q-preserved c = record {
  same = sum_more (time_taken_by c.args.turn c.args.p c.args.sample.now) _ _ _ c.loop-q.q c.loop-q.invariant.same c.taken_by-sum.ensures.same refl;
  few = let before = c.loop-q.invariant.few in let one = c.taken_by-sum.ensures.few in omega (arith, before, one);
}

pub returns : goal.returns
returns c =
    let all : c.loop-q.q ≡ most_partitions = omega arith in
    c.loop-q.invariant.same ∙ ap (λ n. sum_by (time_taken_by c.args.turn c.args.p c.args.sample.now) (range_with_len 0 n)) all
