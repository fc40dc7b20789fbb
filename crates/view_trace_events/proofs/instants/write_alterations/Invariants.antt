use Rattle.std.proofs.Common.{◌≤◌, string_bytes, take}
use Rattle.std.specs.List.{flat_map}
use Rattle.view_trace_events.specs.Instants.{alteration_event}
use Rattle.view_texts.specs.Piece.{IsTold}
use Rattle.view_trace_events.proofs.instants.write_alterations.Given as goal

abbrev pub invariant-loop-one : goal.invariant-loop-one
invariant-loop-one g l = record {
  told : IsTold (g.K.Sink.written l.initial.sink) (g.K.Sink.written l.sink) (string_bytes l.initial.out) (string_bytes l.out)
      (flat_map (alteration_event l.threads l.rows) (take l.one-index l.alterations));
  later : g.K.Sink.faults l.initial.sink ≤ g.K.Sink.faults l.sink;
}
