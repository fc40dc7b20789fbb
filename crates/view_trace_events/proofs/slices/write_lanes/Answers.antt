use Rattle.std.proofs.Common.{◌∙◌, List, ap, arith}
use Rattle.std.specs.List.{flat_map}
use Rattle.view_marks.specs.declared.bar.Bar.{Bar}
use Rattle.view_texts.proofs.Told.{told_row, told_rows, told_same}
use Rattle.view_trace_events.specs.declared.tracks.Track.{Track}
use Rattle.view_trace_events.specs.Slices.{bar_event, lane_events}
use Rattle.view_trace_events.specs.Track.{of_processor}
use Rattle.view_trace_events.proofs.slices.write_lanes.Goals as goal

pub loop-c-preserved : goal.loop-c-preserved
loop-c-preserved g c =
    let threads = c.args.threads.now in
    let rows = c.args.rows.now in
    let track = c.of_processor-track.ensures ∙ ap of_processor c.at.ensures in
    record {
      told = told_row (lane_events threads rows) _ _ _ _ _ _ c.args.lanes.now c.loop-c.c c.index-lanes-c.result c.loop-c-test.true c.index-lanes-c.is c.loop-c.invariant.told
          (told_same _ _ _ _ _ _
          (ap (λ (t : Track). flat_map (bar_event threads rows t) c.bars.result.now) track
          ∙ ap (λ (bars : List Bar). flat_map (bar_event threads rows (of_processor c.loop-c.c)) bars) c.bars.ensures)
          c.in_ok-write_bars.ensures.told);
      later = omega arith;
    }

pub returns-clause-told : goal.returns-clause-told
returns-clause-told g c =
    told_rows (lane_events c.args.threads.now c.args.rows.now) _ _ _ _ c.args.lanes.now c.loop-c.c c.loop-c-test.false c.loop-c.invariant.told
