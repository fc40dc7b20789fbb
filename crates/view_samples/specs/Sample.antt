-- The sample of a finished tick: what is told of the window that ends with it.
use Rattle.std.specs.Prelude.{ℕ, ◌+◌, ◌-◌, List, map, Bool, not, ◌&&◌, nat_le}
use Rattle.std.specs.List.{range_with_len}
use Rattle.aps_model.specs.declared.entry.Entry.{Entry}
use Rattle.aps_model.specs.After.{state_after}
use Rattle.aps_model.specs.Audit.{allowance}
use Rattle.aps_model.specs.Limits.{most_partitions}
use Rattle.aps_model.specs.Loaded.{has_change, has_starved, state_of_tick}
use Rattle.aps_model.specs.Partition.{row_or_none}
use Rattle.aps_model.specs.Scenario.{Scenario}
use Rattle.aps_model.specs.Usage.{critical_used, used}
use Rattle.laws_bounds.specs.FreeTime.{free_used}
use Rattle.view_samples.specs.declared.sample.Sample.{Sample}
use Rattle.view_samples.specs.Picks.{lacks, was_out}

-- the window of tick j, in ticks
abbrev pub window_at : Scenario → List Entry → ℕ → ℕ
window_at scenario h j = (state_of_tick scenario h j).shape.window

-- the first tick of the window that ends with tick j
abbrev pub first_at : Scenario → List Entry → ℕ → ℕ
first_at scenario h j = j + 1 - window_at scenario h j

-- there are as many ticks as the window has
abbrev pub is_full : Scenario → List Entry → ℕ → Bool
is_full scenario h j = nat_le (window_at scenario h j) (j + 1)

-- what the partition used in the window, and what was critical of that
abbrev pub used_at : Scenario → List Entry → ℕ → ℕ → ℕ
used_at scenario h j p = used scenario.shape.tick h p (first_at scenario h j) (j + 1)

abbrev pub critical_at_tick : Scenario → List Entry → ℕ → ℕ → ℕ
critical_at_tick scenario h j p = critical_used scenario.shape.tick h p (first_at scenario h j) (j + 1)

-- what it ran in free time there
abbrev pub free_at : Scenario → List Entry → ℕ → ℕ → ℕ
free_at scenario h j p = free_used scenario scenario.shape.tick h p (first_at scenario h j) (j + 1)

-- what its budget allows in a window, by the rows of tick j; 0 where it didn't exist
abbrev pub allowance_at : Scenario → List Entry → ℕ → ℕ → ℕ
allowance_at scenario h j p =
    allowance (state_of_tick scenario h j).shape (row_or_none (state_of_tick scenario h j).rows p).budget

-- no change stands in the window
abbrev pub is_unchanged : Scenario → List Entry → ℕ → Bool
is_unchanged scenario h j = not (has_change (state_after scenario h).changes (first_at scenario h j) (j + 1))

-- no pick of the window has a starved partition
abbrev pub is_fed : Scenario → List Entry → ℕ → Bool
is_fed scenario h j = not (has_starved scenario.shape.tick h (first_at scenario h j) (j + 1))

-- the partition had a candidate at each pick of the window
abbrev pub has_work : Scenario → List Entry → ℕ → ℕ → Bool
has_work scenario h j p = not (lacks scenario h p (first_at scenario h j) (j + 1))

-- it wasn't in budget at some pick of the window
abbrev pub had_share : Scenario → List Entry → ℕ → ℕ → Bool
had_share scenario h j p = was_out scenario h p (first_at scenario h j) (j + 1)

-- of each partition
abbrev pub of_each : {A : Type 0} → (ℕ → A) → List A
of_each f = map f (range_with_len 0 most_partitions)

-- the window is full, and a change lies in it
abbrev pub is_changed : Sample → Bool
is_changed sample = sample.full && not sample.unchanged

abbrev pub sample_of : Scenario → List Entry → ℕ → Sample
sample_of scenario h j = record {
  tick = j;
  window = window_at scenario h j;
  full = is_full scenario h j;
  unchanged = is_full scenario h j && is_unchanged scenario h j;
  steady = is_full scenario h j && (is_unchanged scenario h j && is_fed scenario h j);
  usage = record {
    used = of_each (used_at scenario h j);
    critical = of_each (critical_at_tick scenario h j);
  };
  free = of_each (free_at scenario h j);
  allowance = of_each (allowance_at scenario h j);
  demand = of_each (λ p. is_full scenario h j && has_work scenario h j p);
  had = of_each (had_share scenario h j);
}
