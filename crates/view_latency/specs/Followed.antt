-- The lives and the calls of a history.
use Rattle.std.specs.Prelude.{List}
use Rattle.aps_model.specs.declared.entry.Entry.{Entry}
use Rattle.aps_model.specs.Scenario.{Scenario}
use Rattle.view_lives.specs.Life.{AreLives}
use Rattle.view_latency.specs.declared.following.Followed.{Followed}
use Rattle.view_latency.specs.Calls.{AreCalls}

-- these are the lives and the calls of all threads
pub record AreFollowed (scenario : Scenario) (h : List Entry) (followed : Followed) : Type 0 where
  pub lives : AreLives scenario h followed.lives.items
  pub calls : AreCalls scenario h followed.calls.items
