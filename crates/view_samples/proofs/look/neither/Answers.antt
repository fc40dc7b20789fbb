use Rattle.std.proofs.Common.{refl, ap, ◌∙◌, arith, ◌||◌, not, get_or, false}
use Rattle.aps_model.specs.Limits.{most_partitions}
use Rattle.view_samples.specs.Picks.{bills}
use Rattle.view_samples.proofs.Fill.{filled_none, filled_more}
use Rattle.view_samples.proofs.look.neither.Goals as goal

pub loop-p-init : goal.loop-p-init
loop-p-init c = filled_none (λ k. not (bills c.args.pick.now k || get_or c.args.others.now k false)) false most_partitions _ refl

pub loop-p-preserved : goal.loop-p-preserved
loop-p-preserved c =
    filled_more (λ k. not (bills c.args.pick.now k || get_or c.args.others.now k false)) false most_partitions c.loop-p.p c.loop-p.all _ (omega arith) (c.nor.ensures
    ∙ ap (λ b. not (b || get_or c.args.others.now c.loop-p.p false)) c.bills.ensures) c.loop-p.invariant

pub returns : goal.returns
returns c = λ p less. c.loop-p.invariant.each p (omega arith)
