use Rattle.std.proofs.Common.{◌≡◌}
use Rattle.view_replay.specs.Retraced.{scenario_of_run}
use Rattle.view_samples.specs.Pass.{IsAtTickBegin}
use Rattle.view_shares.specs.Shares.{AreUpTo}
use Rattle.view_shares.proofs.shares.shares_of.Given as goal

abbrev pub invariant-loop : goal.invariant-loop
invariant-loop l = record {
  told : AreUpTo l.history.scenario l.history.entries l.counter l.shares;
  at : IsAtTickBegin l.history.entries l.samples;
  of : scenario_of_run l.samples.cursor.core ≡ l.history.scenario;
  tick : l.samples.tick ≡ l.counter;
}
