use Rattle.std.proofs.Common.{refl, arith, nat_le, false}
use Rattle.aps_model.specs.Limits.{most_partitions}
use Rattle.view_samples.proofs.Fill.{filled_none, filled_more}
use Rattle.view_samples.proofs.look.from_on.Goals as goal

pub loop-p-init : goal.loop-p-init
loop-p-init c = filled_none (λ k. nat_le c.args.first k) false most_partitions _ refl

pub loop-p-preserved : goal.loop-p-preserved
loop-p-preserved c = filled_more (λ k. nat_le c.args.first k) false most_partitions c.loop-p.p c.loop-p.all _ (omega arith) refl c.loop-p.invariant

pub returns : goal.returns
returns c = λ p less. c.loop-p.invariant.each p (omega arith)
