-- How far the lives and the calls of all threads have come beside a core.
use Rattle.std.specs.Prelude.{◌≡◌}
use Rattle.laws_runs.specs.Moments.{moment}
use Rattle.aps_core.specs.Run.{Run, state_of_run}
use Rattle.view_lives.specs.Life.{AreLives}
use Rattle.view_latency.specs.declared.following.Following.{Following}
use Rattle.view_latency.specs.Callers.{AreCallers}
use Rattle.view_latency.specs.Calls.{AreCalls}
use Rattle.view_latency.specs.Seen.{AreSeen}

-- they are those of the core's entries, the last of which ends at the moment
pub record IsBeside (run : Run) (following : Following) : Type 0 where
  pub lives : AreLives run.setup.scenario run.entries following.lives
  pub calls : AreCalls run.setup.scenario run.entries following.calls.items
  pub callers : AreCallers run.setup.scenario following.callers.items
  pub seen : AreSeen (state_of_run run) following.callers.items following.seen.items
  pub moment : following.moment ≡ moment run.entries
