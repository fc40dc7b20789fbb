use Rattle.std.proofs.Common.{refl, arith, ◌&&◌, not, nat_lt, get_or, false}
use Rattle.aps_model.specs.Limits.{most_partitions}
use Rattle.view_samples.proofs.Fill.{filled_none, filled_more, filled_all}
use Rattle.view_samples.proofs.sample.since.Goals as goal

pub loop-p-init : goal.loop-p-init
loop-p-init c = filled_none (λ k. c.args.full && not (nat_lt c.args.first (get_or c.args.lasts.now k 0))) false most_partitions _ refl

pub loop-p-preserved : goal.loop-p-preserved
loop-p-preserved c =
    filled_more (λ k. c.args.full && not (nat_lt c.args.first (get_or c.args.lasts.now k 0))) false most_partitions c.loop-p.p c.loop-p.all _ (omega arith) c.and_not_below.ensures c.loop-p.invariant

pub returns : goal.returns
returns c = filled_all (λ k. c.args.full && not (nat_lt c.args.first (get_or c.args.lasts.now k 0))) false most_partitions c.loop-p.p c.loop-p.all (omega arith) c.loop-p.invariant
