use Rattle.std.proofs.Common.{arith}
use Rattle.aps_core.specs.Run.{state_of_run}
use Rattle.view_texts.proofs.Texts.{tick_more}
use Rattle.view_value_changes.specs.Moment.{cpu_values}
use Rattle.view_value_changes.proofs.moments.add_processors.Goals as goal

pub loop-c-preserved : goal.loop-c-preserved
loop-c-preserved c = tick_more (cpu_values (state_of_run c.args.core.now)) _ _ _ 0 c.loop-c.c c.loop-c.c (omega arith) c.loop-c.invariant c.in_ok-add_processor.ensures
