use Rattle.std.proofs.Common.{arith}
use Rattle.view_texts.proofs.Texts.{tick_more}
use Rattle.view_value_changes.specs.Save.{no_marker}
use Rattle.view_value_changes.proofs.save.add_no_markers.Goals as goal

pub loop-preserved : goal.loop-preserved
loop-preserved c = tick_more no_marker _ _ _ 0 c.loop.counter c.loop.counter (omega arith) c.loop.invariant c.in_ok-push_str.ensures.bytes
