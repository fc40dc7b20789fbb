use Rattle.std.proofs.Common.{◌≤◌, string_bytes, take}
use Rattle.std.specs.List.{flat_map, enumerate_from}
use Rattle.view_trace_events.specs.Slices.{lane_events}
use Rattle.view_texts.specs.Piece.{IsTold}
use Rattle.view_trace_events.proofs.slices.write_lanes.Given as goal

abbrev pub invariant-loop-c : goal.invariant-loop-c
invariant-loop-c g l = record {
  told : IsTold (g.K.Sink.written l.initial.sink) (g.K.Sink.written l.sink) (string_bytes l.initial.out) (string_bytes l.out)
      (flat_map (lane_events l.threads l.rows) (take l.c (enumerate_from 0 l.lanes)));
  later : g.K.Sink.faults l.initial.sink ≤ g.K.Sink.faults l.sink;
}
