use Rattle.std.proofs.Common.{◌≤◌, string_bytes, take}
use Rattle.std.specs.List.{flat_map}
use Rattle.view_trace_events.specs.Slices.{segment_event}
use Rattle.view_texts.specs.Piece.{IsTold}
use Rattle.view_trace_events.proofs.slices.write_segments.Given as goal

abbrev pub invariant-loop-segment : goal.invariant-loop-segment
invariant-loop-segment g l = record {
  told : IsTold (g.K.Sink.written l.initial.sink) (g.K.Sink.written l.sink) (string_bytes l.initial.out) (string_bytes l.out)
      (flat_map (segment_event l.scenario l.rows l.track) (take l.segment-index l.segments));
  later : g.K.Sink.faults l.initial.sink ≤ g.K.Sink.faults l.sink;
}
