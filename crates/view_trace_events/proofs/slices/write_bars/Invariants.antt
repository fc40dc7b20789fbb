use Rattle.std.proofs.Common.{◌≤◌, string_bytes, take}
use Rattle.std.specs.List.{flat_map}
use Rattle.view_trace_events.specs.Slices.{bar_event}
use Rattle.view_texts.specs.Piece.{IsTold}
use Rattle.view_trace_events.proofs.slices.write_bars.Given as goal

abbrev pub invariant-loop-bar : goal.invariant-loop-bar
invariant-loop-bar g l = record {
  told : IsTold (g.K.Sink.written l.initial.sink) (g.K.Sink.written l.sink) (string_bytes l.initial.out) (string_bytes l.out)
      (flat_map (bar_event l.threads l.rows l.track) (take l.bar-index l.bars));
  later : g.K.Sink.faults l.initial.sink ≤ g.K.Sink.faults l.sink;
}
