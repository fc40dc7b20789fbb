use Rattle.std.specs.Prelude.{◌≡◌, ℕ, ◌+◌, ◌-◌, Bool, false, ◌||◌, ◌&&◌, nat_lt, nat_eq, if◌then◌else◌, List, ◌∷◌, slice_index_or, All}
use Rattle.std.specs.List.{Contains}
use Rattle.aps_model.specs.declared.state.Facts.{Facts}
use Rattle.aps_model.specs.Limits.{greatest_priority, most_partitions}
use Rattle.aps_levels.specs.Levels.{level_count}
use Rattle.aps_ready.specs.declared.entrant.Entrant.{Entrant}
use Rattle.aps_ready.specs.Group.{group_count}

-- nobody
abbrev pub vacant : Entrant
vacant = record { level = level_count; group = group_count; thread = 0; stamp = 0 }

-- the group of a thread with these values: its partition, and 32 more where it has the mark
abbrev pub group_of : Facts → ℕ
group_of facts = if facts.critical then facts.partition + most_partitions else facts.partition

abbrev pub entrant_of : ℕ → Facts → ℕ → Entrant
entrant_of x facts stamp = record { level = greatest_priority - facts.priority; group = group_of facts; thread = x; stamp = stamp }

-- the lower level goes first, and at one level the lower stamp
abbrev pub goes_before : Entrant → Entrant → Bool
goes_before a b = nat_lt a.level b.level || (nat_eq a.level b.level && nat_lt a.stamp b.stamp)

abbrev pub entrant_at : List Entrant → ℕ → Entrant
entrant_at row i = slice_index_or row i vacant

-- nobody of the row goes before the first, who is one of them, or nobody
pub record IsFirst (row : List Entrant) (first : Entrant) : Type 0 where
  pub one : Contains (vacant ∷ row) first
  pub others : All (λ (other : Entrant). goes_before other first ≡ false) row
