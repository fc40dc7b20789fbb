use Rattle.std.proofs.Common.{◌≤◌, string_bytes, take}
use Rattle.std.specs.List.{flat_map, enumerate_from}
use Rattle.view_trace_events.specs.Slices.{life_events}
use Rattle.view_texts.specs.Piece.{IsTold}
use Rattle.view_trace_events.proofs.slices.write_lives.Given as goal

abbrev pub invariant-loop-x : goal.invariant-loop-x
invariant-loop-x g l = record {
  told : IsTold (g.K.Sink.written l.initial.sink) (g.K.Sink.written l.sink) (string_bytes l.initial.out) (string_bytes l.out)
      (flat_map (life_events l.scenario l.rows) (take l.x (enumerate_from 0 l.lives)));
  later : g.K.Sink.faults l.initial.sink ≤ g.K.Sink.faults l.sink;
}
