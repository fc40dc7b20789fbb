use Rattle.std.proofs.Common.{◌≡◌}
use Rattle.view_replay.specs.Retraced.{scenario_of_run}
use Rattle.view_samples.specs.Pass.{IsAtTickBegin}
use Rattle.view_pictures.proofs.group.Groups.pass.Given as goal

abbrev pub invariant-loop-j : goal.invariant-loop-j
invariant-loop-j l = record {
  at : IsAtTickBegin l.history.entries l.samples;
  of : scenario_of_run l.samples.cursor.core ≡ l.history.scenario;
  tick : l.samples.tick ≡ l.j;
}
