use Rattle.std.proofs.Common.{arith}
use Rattle.aps_core.specs.Run.{state_of_run}
use Rattle.view_texts.proofs.Texts.{tick_more}
use Rattle.view_value_changes.specs.Moment.{values_of_thread}
use Rattle.view_value_changes.proofs.moments.add_threads.Goals as goal

pub loop-x-preserved : goal.loop-x-preserved
loop-x-preserved c = tick_more (values_of_thread (state_of_run c.args.core.now)) _ _ _ 0 c.loop-x.x c.loop-x.x (omega arith) c.loop-x.invariant c.in_ok-add_thread.ensures
