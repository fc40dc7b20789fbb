use Rattle.std.specs.Prelude.{◌≡◌, ℕ, ◌+◌, ◌<◌, Bool, ◌&&◌, true, false, List, length, slice_index_or}
use Rattle.aps_levels.specs.declared.bits.Bits64.{Bits64}
use Rattle.aps_levels.specs.declared.levels.Levels.{Levels}
use Rattle.aps_levels.specs.Bits.{set_has}
use Rattle.aps_levels.specs.Levels.{has_level, level_count}
use Rattle.aps_ready.specs.Group.{group_count}

abbrev pub no_bits : Bits64
no_bits = record { word = 0 }

abbrev pub no_levels : Levels
no_levels = record { first = no_bits; second = no_bits; third = no_bits; fourth = no_bits }

abbrev pub bits_at : List Bits64 → ℕ → Bits64
bits_at at_level l = slice_index_or at_level l no_bits

abbrev pub levels_at : List Levels → ℕ → Levels
levels_at of_group g = slice_index_or of_group g no_levels

-- a level at which the group is
pub record HasLevel (at_level : List Bits64) (g : ℕ) : Type 0 where
  pub level : ℕ
  pub below : level < level_count
  pub here : set_has (bits_at at_level level) g ≡ true

-- a group that is at the level
pub record HasGroupAt (at_level : List Bits64) (l : ℕ) : Type 0 where
  pub group : ℕ
  pub below : group < group_count
  pub here : set_has (bits_at at_level l) group ≡ true

-- the levels at which groups are, the levels of each group, and the groups that are at any level
pub record IsLevelTable (at_level : List Bits64) (levels : Levels) (of_group : List Levels) (occupied : Bits64) : Type 0 where
  pub each : length at_level ≡ level_count
  pub groups : length of_group ≡ group_count
  pub in_use : (l g : ℕ) → l < level_count → g < group_count → set_has (bits_at at_level l) g ≡ true → has_level levels l ≡ true
  pub used : (l : ℕ) → l < level_count → has_level levels l ≡ true → HasGroupAt at_level l
  pub same : (l g : ℕ) → l < level_count → g < group_count → has_level (levels_at of_group g) l ≡ set_has (bits_at at_level l) g
  pub all : (l g : ℕ) → l < level_count → g < group_count → set_has (bits_at at_level l) g ≡ true → set_has occupied g ≡ true
  pub some : (g : ℕ) → g < group_count → set_has occupied g ≡ true → HasLevel at_level g

-- no group of the set is at the level
abbrev pub IsLevelFree : List Bits64 → (ℕ → Bool) → ℕ → Type 0
IsLevelFree at_level set l = (g : ℕ) → g < group_count → (set_has (bits_at at_level l) g && set g) ≡ false

-- the groups of the set at the least level at which any of them is
pub record AreAtLeast (at_level : List Bits64) (set : ℕ → Bool) (level : ℕ) (found : ℕ → Bool) : Type 0 where
  pub below : level < level_count
  pub group : ℕ
  pub inside : group < group_count
  pub some : found group ≡ true
  pub these : (g : ℕ) → g < group_count → found g ≡ (set_has (bits_at at_level level) g && set g)
  pub free : (l : ℕ) → l < level → IsLevelFree at_level set l

-- of the levels from `from` on that the word has, each less `from`, the least at which a group of the set is, and those groups
pub record IsFirstLevel (at_level : List Bits64) (word : Bits64) (set : ℕ → Bool) (from level : ℕ) (found : ℕ → Bool) : Type 0 where
  pub place : ℕ
  pub below : place < 64
  pub at : level ≡ from + place
  pub group : ℕ
  pub inside : group < group_count
  pub some : found group ≡ true
  pub these : (g : ℕ) → g < group_count → found g ≡ (set_has (bits_at at_level level) g && set g)
  pub earlier : (k : ℕ) → k < place → set_has word k ≡ true → IsLevelFree at_level set (from + k)
