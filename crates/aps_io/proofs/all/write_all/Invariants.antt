use Rattle.std.proofs.Common.{◌≤◌, ◌-◌, length, take}
use Rattle.std.specs.Io.KnownBytes.{Appends}
use Rattle.aps_io.proofs.all.write_all.Given as goal

abbrev pub invariant-writing : goal.invariant-writing
invariant-writing g l = record {
  put : Appends (g.K.Sink.written l.initial.sink) (g.K.Sink.written l.sink) (take l.at l.text);
  later : g.K.Sink.faults l.initial.sink ≤ g.K.Sink.faults l.sink;
  more_shortages : g.K.Sink.shortages l.initial.sink ≤ g.K.Sink.shortages l.sink;
  within : l.at ≤ length l.text;
}

abbrev pub decreases-writing : goal.decreases-writing
decreases-writing g l = length l.text - l.at
