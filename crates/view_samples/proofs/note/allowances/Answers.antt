use Rattle.std.proofs.Common.{refl, arith}
use Rattle.aps_model.specs.Audit.{allowance}
use Rattle.aps_model.specs.Limits.{most_partitions}
use Rattle.aps_model.specs.Partition.{row_or_none}
use Rattle.view_samples.proofs.Fill.{filled_none, filled_more}
use Rattle.view_samples.proofs.note.allowances.Goals as goal

pub loop-p-init : goal.loop-p-init
loop-p-init c = filled_none (λ k. allowance c.args.shape.now (row_or_none c.args.rows.now k).budget) 0 most_partitions _ refl

pub loop-p-preserved : goal.loop-p-preserved
loop-p-preserved c =
    filled_more (λ k. allowance c.args.shape.now (row_or_none c.args.rows.now k).budget) 0 most_partitions c.loop-p.p c.loop-p.allowed _ (omega arith) (c.allowance_at.ensures) c.loop-p.invariant

pub returns : goal.returns
returns c = λ p less. c.loop-p.invariant.each p (omega arith)
