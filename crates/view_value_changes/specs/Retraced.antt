-- How far the steps of a history have been made again.
use Rattle.std.specs.Prelude.{◌≡◌}
use Rattle.aps_model.specs.Valid.{IsScenario}
use Rattle.laws_runs.specs.Moments.{moment}
use Rattle.view_replay.specs.Retraced.{scenario_of_run}
use Rattle.view_value_changes.specs.declared.retracing.Retraced.{Retraced}
use Rattle.view_shares.specs.Usages.{AreUsagesUpTo}

-- the entries of its core are done: the moment is that of the last one's end, and their time is counted
pub record RetracedFollowsCore (retraced : Retraced) : Type 0 where
  pub valid : IsScenario (scenario_of_run retraced.core)
  pub moment : retraced.moment ≡ moment retraced.core.entries
  pub up : AreUsagesUpTo retraced.core retraced.usages
