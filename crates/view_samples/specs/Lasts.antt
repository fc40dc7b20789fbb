-- The last ticks in which something was so, as ticks pass.
use Rattle.std.specs.Prelude.{◌≡◌, ℕ, ◌<◌, ◌≤◌, Bool, List, nat_lt, slice_index}
use Rattle.aps_model.specs.Limits.{most_partitions}
use Rattle.aps_model.specs.declared.entry.Entry.{Entry}
use Rattle.aps_model.specs.Loaded.{has_starved}
use Rattle.aps_model.specs.Scenario.{Scenario}
use Rattle.view_samples.specs.declared.lasts.Lasts.{Lasts}
use Rattle.view_samples.specs.Picks.{changes_in, lacks, was_out}

-- of ticks below j, this is the one after the last in which it was so, or 0
pub record IsAfterLast (was : ℕ → ℕ → Bool) (j after : ℕ) : Type 0 where
  pub same : (a : ℕ) → was a j ≡ nat_lt a after
  pub within : after ≤ j

pub record AreLasts (scenario : Scenario) (h : List Entry) (j : ℕ) (lasts : Lasts) : Type 0 where
  pub lacked : (p : ℕ) → p < most_partitions → IsAfterLast (lacks scenario h p) j (slice_index lasts.lacked p)
  pub out : (p : ℕ) → p < most_partitions → IsAfterLast (was_out scenario h p) j (slice_index lasts.out p)
  pub starved : IsAfterLast (has_starved scenario.shape.tick h) j lasts.starved
  pub changed : IsAfterLast (changes_in scenario h) j lasts.changed
