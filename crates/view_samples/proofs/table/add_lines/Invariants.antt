use Rattle.std.proofs.Common.{◌≡◌, ◌-◌, ◌++◌, string_bytes}
use Rattle.std.specs.List.{flat_map, range_with_len}
use Rattle.view_replay.specs.Retraced.{scenario_of_run}
use Rattle.view_samples.specs.Csv.{line_of_tick}
use Rattle.view_samples.specs.Pass.{IsAtTickBegin}
use Rattle.view_samples.proofs.table.add_lines.Given as goal

abbrev pub invariant-loop-j : goal.invariant-loop-j
invariant-loop-j l = record {
  text : string_bytes l.out ≡ string_bytes l.initial.out ++ flat_map (line_of_tick l.history.scenario l.history.entries) (range_with_len l.first (l.j - l.first));
  at : IsAtTickBegin l.history.entries l.samples;
  of : scenario_of_run l.samples.cursor.core ≡ l.history.scenario;
  tick : l.samples.tick ≡ l.j;
}
