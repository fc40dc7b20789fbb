use Rattle.std.proofs.Common.{◌≡◌, ◌≤◌, string_bytes}
use Rattle.std.specs.List.{flat_map, range_with_len}
use Rattle.view_replay.specs.Retraced.{scenario_of_run}
use Rattle.view_samples.specs.Pass.{IsAtTickBegin}
use Rattle.view_trace_events.specs.Counters.{before_tick, tick_events}
use Rattle.view_texts.specs.Piece.{IsTold}
use Rattle.view_trace_events.proofs.counters.write_ticks.Given as goal

abbrev pub invariant-loop : goal.invariant-loop
invariant-loop g l = record {
  told : IsTold (g.K.Sink.written l.initial.sink) (g.K.Sink.written l.sink) (string_bytes l.initial.out) (string_bytes l.out)
      (flat_map (tick_events l.history.scenario l.history.entries l.rows) (range_with_len 0 l.counter));
  later : g.K.Sink.faults l.initial.sink ≤ g.K.Sink.faults l.sink;
  at : IsAtTickBegin l.history.entries l.samples;
  of : scenario_of_run l.samples.cursor.core ≡ l.history.scenario;
  tick : l.samples.tick ≡ l.counter;
  before : l.before ≡ before_tick l.history.scenario l.history.entries l.counter;
}
