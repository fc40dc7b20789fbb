use Rattle.std.proofs.Common.{arith, sym}
use Rattle.view_texts.proofs.Told.{told_item, told_line}
use Rattle.view_trace_events.specs.Slices.{segment_event}
use Rattle.view_trace_events.proofs.slices.write_segments.Goals as goal

pub loop-segment-preserved : goal.loop-segment-preserved
loop-segment-preserved g c = record {
  told = told_line (segment_event c.args.scenario.now c.args.rows.now c.args.track) _ _ _ _ _ _ c.args.segments.now c.loop-segment.segment-index c.segment-item.result c.loop-segment-test.true (sym c.segment-item.is) c.loop-segment.invariant.told
      (told_item _ _ _ _ _ _ c.in_ok-add_segment.ensures c.in_ok-make_room.ensures.told);
  later = omega arith;
}
