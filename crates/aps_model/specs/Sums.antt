-- What all partitions used in some ticks, at once.
use Rattle.std.specs.Prelude.{◌≡◌, ℕ, ◌+◌, ◌<◌, ◌≤◌, List, if◌then◌else◌, ◌&&◌, slice_index}
use Rattle.aps_model.specs.declared.entry.Entry.{Entry}
use Rattle.aps_model.specs.declared.usage.Usage.{Usage}
use Rattle.aps_model.specs.Usage.{critical_used, names, used}
use Rattle.aps_model.specs.Limits.{most_partitions}

-- these are the sums over the entries, of ticks a to b-1
pub record IsUsage (tick a b : ℕ) (entries : List Entry) (usage : Usage) : Type 0 where
  pub used : (p : ℕ) → p < most_partitions → slice_index usage.used p ≡ used tick entries p a b
  pub critical : (p : ℕ) → p < most_partitions → slice_index usage.critical p ≡ critical_used tick entries p a b

-- no sum is above this
pub record IsAtMost (most : ℕ) (usage : Usage) : Type 0 where
  pub used : (p : ℕ) → p < most_partitions → slice_index usage.used p ≤ most
  pub critical : (p : ℕ) → p < most_partitions → slice_index usage.critical p ≤ most

-- what the entry bills was added
pub record IsBilled (usage : Usage) (e : Entry) (ns : ℕ) (new : Usage) : Type 0 where
  pub used : (p : ℕ) → p < most_partitions → slice_index new.used p ≡ slice_index usage.used p + (if names e.billed p then ns else 0)
  pub critical : (p : ℕ) → p < most_partitions
      → slice_index new.critical p ≡ slice_index usage.critical p + (if names e.billed p && e.critical then ns else 0)
