use Rattle.std.specs.Prelude.{◌≡◌, ℕ, ◌<◌, ◌≤◌, Bool, true, ◌&&◌, nat_eq, if◌then◌else◌, List, [], ◌∷◌, map}
use Rattle.std.specs.List.{range_with_len}
use Rattle.aps_levels.specs.declared.bits.Bits64.{Bits64}
use Rattle.aps_levels.specs.Bits.{set_has}
use Rattle.aps_levels.specs.Levels.{level_count}
use Rattle.aps_ready.specs.declared.entrant.Entrant.{Entrant}
use Rattle.aps_ready.specs.Entrant.{entrant_at, goes_before, vacant}
use Rattle.aps_ready.specs.Ready.{entrant_in}
use Rattle.aps_ready.specs.Group.{group_count}

-- the one of a row that goes before all others; nobody where nobody is in it
abbrev pub first_entrant : List Entrant → Entrant
first_entrant [] = vacant
first_entrant (e ∷ row) = if goes_before e (first_entrant row) then e else first_entrant row

-- the first of each group
abbrev pub firsts_of : List Entrant → List Entrant
firsts_of row = map (λ g. first_entrant (map (entrant_in g) row)) (range_with_len 0 group_count)

-- the level of the first of a group, 256 where the group is empty
abbrev pub level_of : List Entrant → ℕ → ℕ
level_of firsts g = (entrant_at firsts g).level

-- all groups of the set are empty
abbrev pub AreEmpty : List Entrant → Bits64 → Type 0
AreEmpty firsts set = (g : ℕ) → g < group_count → set_has set g ≡ true → level_count ≤ level_of firsts g

-- the groups of the set at the least level of any of them, which is below 256
pub record AreLeast (firsts : List Entrant) (set found : ℕ → Bool) : Type 0 where
  pub level : ℕ
  pub below : level < level_count
  pub group : ℕ
  pub inside : group < group_count
  pub some : found group ≡ true
  pub these : (g : ℕ) → g < group_count → found g ≡ (nat_eq (level_of firsts g) level && set g)
  pub least : (g : ℕ) → g < group_count → set g ≡ true → level ≤ level_of firsts g

-- the groups of the set have this level
pub record AreAt (firsts : List Entrant) (set : ℕ → Bool) (level : ℕ) : Type 0 where
  pub below : level < level_count
  pub same : (g : ℕ) → g < group_count → set g ≡ true → level_of firsts g ≡ level

-- the group is the only one of the set
pub record IsOnly (set : ℕ → Bool) (group : ℕ) : Type 0 where
  pub below : group < group_count
  pub here : set group ≡ true
  pub one : (g : ℕ) → set g ≡ true → g ≡ group
