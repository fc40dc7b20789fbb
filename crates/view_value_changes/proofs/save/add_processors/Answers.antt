use Rattle.std.proofs.Common.{arith}
use Rattle.view_texts.proofs.Texts.{tick_more}
use Rattle.view_value_changes.specs.Save.{cpu_group}
use Rattle.view_value_changes.proofs.save.add_processors.Goals as goal

pub loop-c-preserved : goal.loop-c-preserved
loop-c-preserved c = tick_more cpu_group _ _ _ 0 c.loop-c.c c.loop-c.c (omega arith) c.loop-c.invariant c.in_ok-add_processor.ensures
