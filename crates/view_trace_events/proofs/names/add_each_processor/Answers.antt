use Rattle.std.proofs.Common.{arith}
use Rattle.view_texts.proofs.Texts.{tick_more}
use Rattle.view_texts.proofs.Pieces.{as_other}
use Rattle.view_trace_events.specs.Names.{processor_names}
use Rattle.view_trace_events.proofs.names.add_each_processor.Goals as goal

pub loop-c-preserved : goal.loop-c-preserved
loop-c-preserved c =
    tick_more processor_names _ _ _ 0 c.loop-c.c c.loop-c.c (omega arith) c.loop-c.invariant (as_other processor_names _ _ _ _ c.in_ok-add_processor.ensures c.at.ensures)
