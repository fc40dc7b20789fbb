use Rattle.std.proofs.Common.{arith, sym}
use Rattle.view_texts.proofs.Told.{told_item, told_line}
use Rattle.view_trace_events.specs.Slices.{bar_event}
use Rattle.view_trace_events.proofs.slices.write_bars.Goals as goal

pub loop-bar-preserved : goal.loop-bar-preserved
loop-bar-preserved g c = record {
  told = told_line (bar_event c.args.threads.now c.args.rows.now c.args.track) _ _ _ _ _ _ c.args.bars.now c.loop-bar.bar-index c.bar-item.result c.loop-bar-test.true (sym c.bar-item.is) c.loop-bar.invariant.told
      (told_item _ _ _ _ _ _ c.in_ok-add_bar.ensures c.in_ok-make_room.ensures.told);
  later = omega arith;
}
