use Rattle.std.proofs.Common.{◌∙◌, List, ap, arith}
use Rattle.std.specs.List.{flat_map}
use Rattle.aps_model.specs.declared.scenario.ThreadRow.{ThreadRow}
use Rattle.view_lives.specs.declared.life.Segment.{Segment}
use Rattle.view_texts.proofs.Told.{told_row, told_rows, told_same}
use Rattle.view_trace_events.specs.declared.tracks.Track.{Track}
use Rattle.view_trace_events.specs.Slices.{life_events, segment_event}
use Rattle.view_trace_events.specs.Track.{of_thread}
use Rattle.view_trace_events.proofs.slices.write_lives.Goals as goal

pub loop-x-preserved : goal.loop-x-preserved
loop-x-preserved g c =
    let scenario = c.args.scenario.now in
    let rows = c.args.rows.now in
    let track =
    c.of_thread-track.ensures ∙ ap (of_thread c.threads-threads.result.now) c.at.ensures ∙ ap (λ (threads : List ThreadRow). of_thread threads c.loop-x.x) c.threads-threads.ensures.same in
    record {
      told = told_row (life_events scenario rows) _ _ _ _ _ _ c.args.lives.now c.loop-x.x c.index-lives-x.result c.loop-x-test.true c.index-lives-x.is c.loop-x.invariant.told
          (told_same _ _ _ _ _ _
          (ap (λ (t : Track). flat_map (segment_event scenario rows t) c.segments.result.now) track
          ∙ ap (λ (life : List Segment). flat_map (segment_event scenario rows (of_thread scenario.threads c.loop-x.x)) life) c.segments.ensures)
          c.in_ok-write_segments.ensures.told);
      later = omega arith;
    }

pub returns-clause-told : goal.returns-clause-told
returns-clause-told g c =
    told_rows (life_events c.args.scenario.now c.args.rows.now) _ _ _ _ c.args.lives.now c.loop-x.x c.loop-x-test.false c.loop-x.invariant.told
