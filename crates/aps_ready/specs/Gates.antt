use Rattle.std.specs.Prelude.{◌≡◌, ℕ, ◌<◌, ◌%◌, Bool, ◌&&◌, ◌||◌, not, nat_lt, List}
use Rattle.aps_model.specs.declared.merit.PartFacts.{PartFacts}
use Rattle.aps_model.specs.Budget.{part_at}
use Rattle.aps_model.specs.Limits.{last_partition, most_partitions}
use Rattle.aps_levels.specs.Bits.{set_has}
use Rattle.aps_ready.specs.declared.gates.Gates.{Gates}
use Rattle.aps_ready.specs.Group.{group_count}

-- the critical, or the other, threads of the partition are of class 1
abbrev pub is_first : PartFacts → Bool → Bool
is_first part critical = part.funded || (critical && part.standing)

-- they are candidates
abbrev pub is_open : PartFacts → Bool → Bool
is_open part critical = not part.shut || (is_first part critical && not part.funded)

abbrev pub is_open_first : PartFacts → Bool → Bool
is_open_first part critical = is_open part critical && is_first part critical

abbrev pub is_open_second : PartFacts → Bool → Bool
is_open_second part critical = is_open part critical && not (is_first part critical)

-- the threads of a group are candidates of class 1
abbrev pub open_first : List PartFacts → ℕ → Bool
open_first parts g = is_open_first (part_at parts (g % most_partitions)) (nat_lt last_partition g)

-- which groups are candidates, by their class, and which partitions have a budget, where the partitions stand so; the
-- group g has the threads of partition g, and from 32 on the critical ones of partition g - 32
pub record AreGatesOf (stands : ℕ → PartFacts) (gates : Gates) : Type 0 where
  pub first : (g : ℕ) → g < group_count → set_has gates.first g ≡ is_open_first (stands (g % most_partitions)) (nat_lt last_partition g)
  pub second : (g : ℕ) → g < group_count → set_has gates.second g ≡ is_open_second (stands (g % most_partitions)) (nat_lt last_partition g)
  pub budgeted : (p : ℕ) → p < 64 → set_has gates.budgeted p ≡ (nat_lt p most_partitions && nat_lt 0 (stands p).budget)

abbrev pub AreGates : List PartFacts → Gates → Type 0
AreGates parts gates = AreGatesOf (part_at parts) gates
