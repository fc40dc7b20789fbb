-- A partition that had had its share.
use Rattle.std.specs.Prelude.{ℕ, ◌≤◌, List}
use Rattle.aps_model.specs.declared.entry.Entry.{Entry}
use Rattle.aps_model.specs.Loaded.{state_of_tick}
use Rattle.aps_model.specs.Scenario.{Scenario}
use Rattle.aps_model.specs.Usage.{window_used}
use Rattle.view_samples.specs.Sample.{allowance_at, first_at}

-- in the window that ends with some tick of the window of tick j, the partition has its whole allowance
pub record HadItsShare (scenario : Scenario) (h : List Entry) (j p : ℕ) : Type 0 where
  pub tick : ℕ
  pub from : first_at scenario h j ≤ tick
  pub up : tick ≤ j
  pub share : allowance_at scenario h j p ≤ window_used (state_of_tick scenario h j).shape h tick p
