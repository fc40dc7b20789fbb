use Rattle.std.proofs.Common.{refl, arith, get_or, false}
use Rattle.aps_model.specs.Limits.{most_partitions}
use Rattle.view_samples.specs.Passed.{later}
use Rattle.view_samples.proofs.Fill.{filled_none, filled_more}
use Rattle.view_samples.proofs.lasts.all_later.Goals as goal

pub loop-p-init : goal.loop-p-init
loop-p-init c = filled_none (λ k. later (get_or c.args.lasts.now k 0) (get_or c.args.was.now k false) c.args.j) 0 most_partitions _ refl

pub loop-p-preserved : goal.loop-p-preserved
loop-p-preserved c =
    filled_more (λ k. later (get_or c.args.lasts.now k 0) (get_or c.args.was.now k false) c.args.j) 0 most_partitions c.loop-p.p c.loop-p.all _ (omega arith) c.later.ensures c.loop-p.invariant

pub returns : goal.returns
returns c = λ p less. c.loop-p.invariant.each p (omega arith)
