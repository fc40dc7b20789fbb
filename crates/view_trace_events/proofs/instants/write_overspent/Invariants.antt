use Rattle.std.proofs.Common.{◌≤◌, string_bytes, take}
use Rattle.std.specs.List.{flat_map}
use Rattle.view_trace_events.specs.Instants.{overspent_event}
use Rattle.view_texts.specs.Piece.{IsTold}
use Rattle.view_trace_events.proofs.instants.write_overspent.Given as goal

abbrev pub invariant-loop-one : goal.invariant-loop-one
invariant-loop-one g l = record {
  told : IsTold (g.K.Sink.written l.initial.sink) (g.K.Sink.written l.sink) (string_bytes l.initial.out) (string_bytes l.out)
      (flat_map overspent_event (take l.one-index l.overspent));
  later : g.K.Sink.faults l.initial.sink ≤ g.K.Sink.faults l.sink;
}
