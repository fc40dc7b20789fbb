use Rattle.std.proofs.Common.{refl, arith, get_or}
use Rattle.aps_model.specs.Limits.{most_partitions}
use Rattle.view_samples.proofs.Fill.{filled_none, filled_more}
use Rattle.view_shares.specs.Share.{no_share, share_with}
use Rattle.view_shares.proofs.shares.each_with.Goals as goal

pub loop-p-init : goal.loop-p-init
loop-p-init c = filled_none (λ k. share_with c.args.turn k (get_or c.args.shares.now k no_share) c.args.sample.now) no_share most_partitions _ refl

pub loop-p-preserved : goal.loop-p-preserved
loop-p-preserved c =
    filled_more (λ k. share_with c.args.turn k (get_or c.args.shares.now k no_share) c.args.sample.now) no_share most_partitions c.loop-p.p c.loop-p.all _
    (omega arith) c.with.ensures c.loop-p.invariant

pub returns : goal.returns
returns c = λ p less. c.loop-p.invariant.each p (omega arith)
