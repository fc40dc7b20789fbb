-- What enters the usage of a window and what leaves it.
use Rattle.std.specs.Prelude.{◌≡◌, ℕ, ◌+◌, ◌<◌, ◌≤◌, List, if◌then◌else◌, ◌&&◌, slice_index}
use Rattle.aps_model.specs.Limits.{most_partitions}
use Rattle.aps_model.specs.declared.entry.Entry.{Entry}
use Rattle.aps_model.specs.Usage.{critical_used, names, used}
use Rattle.aps_model.specs.declared.usage.Usage.{Usage}

-- the second is the first and what the entries bill in ticks a to b-1
pub record IsMore (tick a b : ℕ) (entries : List Entry) (usage more : Usage) : Type 0 where
  pub used : (p : ℕ) → p < most_partitions → slice_index more.used p ≡ slice_index usage.used p + used tick entries p a b
  pub critical : (p : ℕ) → p < most_partitions
      → slice_index more.critical p ≡ slice_index usage.critical p + critical_used tick entries p a b

-- what the entries bill in ticks a to b-1 is a part of it
pub record HasUsed (tick a b : ℕ) (entries : List Entry) (usage : Usage) : Type 0 where
  pub used : (p : ℕ) → p < most_partitions → used tick entries p a b ≤ slice_index usage.used p
  pub critical : (p : ℕ) → p < most_partitions → critical_used tick entries p a b ≤ slice_index usage.critical p

-- so much for what the entry bills is a part of it
pub record HasBilled (e : Entry) (ns : ℕ) (usage : Usage) : Type 0 where
  pub used : (p : ℕ) → p < most_partitions → (if names e.billed p then ns else 0) ≤ slice_index usage.used p
  pub critical : (p : ℕ) → p < most_partitions → (if names e.billed p && e.critical then ns else 0) ≤ slice_index usage.critical p
