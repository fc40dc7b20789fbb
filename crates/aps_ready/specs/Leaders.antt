use Rattle.std.specs.Prelude.{◌≡◌, ℕ, ◌%◌, ◌<◌, ◌≤◌, Bool, true, false, ◌&&◌, not, List}
use Rattle.aps_model.specs.declared.merit.PartFacts.{PartFacts}
use Rattle.aps_model.specs.Merit.{smaller}
use Rattle.aps_model.specs.Budget.{part_at}
use Rattle.aps_model.specs.Limits.{most_partitions, most_used, thousandths}
use Rattle.aps_levels.specs.Bits.{set_has}
use Rattle.aps_ready.specs.declared.entrant.Entrant.{Entrant}
use Rattle.aps_ready.specs.declared.leaders.Leaders.{Leaders}
use Rattle.aps_ready.specs.Entrant.{entrant_at}
use Rattle.aps_ready.specs.Group.{group_count}

-- the fraction is smaller than that which the partition of a group has used
abbrev pub is_less_than : List PartFacts → ℕ → ℕ → ℕ → Bool
is_less_than parts used budget g =
    smaller used budget (part_at parts (g % most_partitions)).used (part_at parts (g % most_partitions)).budget

-- it is greater
abbrev pub is_more_than : List PartFacts → ℕ → ℕ → ℕ → Bool
is_more_than parts used budget g =
    smaller (part_at parts (g % most_partitions)).used (part_at parts (g % most_partitions)).budget used budget

-- the set has a group of the partition
pub record HasGroup (set : ℕ → Bool) (p : ℕ) : Type 0 where
  pub below : p < most_partitions
  pub group : ℕ
  pub inside : group < group_count
  pub here : set group ≡ true
  pub own : group % most_partitions ≡ p

-- groups whose partitions have used the fraction of the leaders, and among them all those that were seen; none that was seen has
-- used less
pub record AreLeading (parts : List PartFacts) (seen : ℕ → Bool) (leaders : Leaders) : Type 0 where
  pub level : (g : ℕ) → g < group_count → set_has leaders.groups g ≡ true → is_less_than parts leaders.used leaders.budget g ≡ false
  pub all : (g : ℕ) → g < group_count → seen g ≡ true → is_less_than parts leaders.used leaders.budget g ≡ false
      → set_has leaders.groups g ≡ true
  pub least : (g : ℕ) → g < group_count → seen g ≡ true → is_more_than parts leaders.used leaders.budget g ≡ false
  pub some : 0 < leaders.budget → (g : ℕ) × (g < group_count) × (seen g ≡ true) × (set_has leaders.groups g ≡ true)
  pub one : leaders.budget ≡ 0 → leaders.used ≡ 1
  pub used : leaders.used ≤ most_used
  pub budget : leaders.budget ≤ thousandths

-- of these groups those whose partitions have used the fraction of the leaders, than which none has used less
pub record AreLeaders (parts : List PartFacts) (wanted : ℕ → Bool) (leaders : Leaders) : Type 0 where
  pub these : (g : ℕ) → g < group_count → set_has leaders.groups g ≡ (wanted g && not (is_less_than parts leaders.used leaders.budget g))
  pub least : (g : ℕ) → g < group_count → wanted g ≡ true → is_more_than parts leaders.used leaders.budget g ≡ false
  pub some : 0 < leaders.budget → (g : ℕ) × (g < group_count) × (set_has leaders.groups g ≡ true)

-- the first of one of the groups of a set, whose stamp is the smallest of their firsts'
pub record IsEarliest (firsts : List Entrant) (set : ℕ → Bool) (best : Entrant) : Type 0 where
  pub group : ℕ
  pub below : group < group_count
  pub among : set group ≡ true
  pub is : best ≡ entrant_at firsts group
  pub least : (g : ℕ) → g < group_count → set g ≡ true → best.stamp ≤ (entrant_at firsts g).stamp
