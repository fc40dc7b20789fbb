use Rattle.std.proofs.Common.{refl, ap, arith, not, false}
use Rattle.aps_model.specs.Budget.{part_at}
use Rattle.aps_model.specs.Limits.{most_partitions}
use Rattle.view_samples.proofs.Fill.{filled_none, filled_more}
use Rattle.view_samples.proofs.look.unfunded.Goals as goal

pub loop-p-init : goal.loop-p-init
loop-p-init c = filled_none (λ k. not (part_at c.args.parts.now k).funded) false most_partitions _ refl

pub loop-p-preserved : goal.loop-p-preserved
loop-p-preserved c = filled_more (λ k. not (part_at c.args.parts.now k).funded) false most_partitions c.loop-p.p c.loop-p.all _ (omega arith) (ap not c.is_funded.ensures) c.loop-p.invariant

pub returns : goal.returns
returns c = λ p less. c.loop-p.invariant.each p (omega arith)
