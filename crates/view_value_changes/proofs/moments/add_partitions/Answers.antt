use Rattle.std.proofs.Common.{arith}
use Rattle.view_texts.proofs.Texts.{tick_more}
use Rattle.view_value_changes.specs.Moment.{values_of_partition}
use Rattle.view_value_changes.proofs.moments.add_partitions.Goals as goal

pub loop-p-preserved : goal.loop-p-preserved
loop-p-preserved c = tick_more (values_of_partition c.args.core.now c.args.told.now) _ _ _ 0 c.loop-p.p c.loop-p.p (omega arith) c.loop-p.invariant c.in_ok-add_told.ensures
