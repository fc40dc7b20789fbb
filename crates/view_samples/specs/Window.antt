-- The sums of the window that ends with a tick.
use Rattle.std.specs.Prelude.{◌≡◌, ℕ, List}
use Rattle.aps_model.specs.declared.entry.Entry.{Entry}
use Rattle.aps_model.specs.Scenario.{Scenario}
use Rattle.aps_core.specs.Counts.{critical_in, used_in}
use Rattle.view_samples.specs.declared.sums.Sums.{Sums}
use Rattle.view_samples.specs.Sample.{critical_at_tick, free_at, of_each, used_at}

-- these are the sums of the window that ends with tick j
pub record AreOfWindow (scenario : Scenario) (h : List Entry) (j : ℕ) (sums : Sums) : Type 0 where
  pub used : used_in sums.all ≡ of_each (used_at scenario h j)
  pub critical : critical_in sums.all ≡ of_each (critical_at_tick scenario h j)
  pub free : critical_in sums.free ≡ of_each (free_at scenario h j)
