use Rattle.std.specs.Prelude.{◌≡◌, ℕ, ◌<◌, ◌≤◌, Bool, true, List, length}
use Rattle.aps_levels.specs.Levels.{level_count}
use Rattle.aps_ready.specs.declared.entrant.Entrant.{Entrant}
use Rattle.aps_ready.specs.Entrant.{entrant_at}
use Rattle.aps_ready.specs.Group.{group_count}

-- somebody in a group of the set has the level
pub record HasOneAt (row : List Entrant) (set : ℕ → Bool) (level : ℕ) : Type 0 where
  pub place : ℕ
  pub within : place < length row
  pub there : (entrant_at row place).group < group_count
  pub among : set (entrant_at row place).group ≡ true
  pub is : (entrant_at row place).level ≡ level

-- the least level, which is the highest priority, of those in groups of the set; 256 where nobody is
pub record IsHighest (row : List Entrant) (set : ℕ → Bool) (level : ℕ) : Type 0 where
  pub least : (x : ℕ) → x < length row → (entrant_at row x).group < group_count → set (entrant_at row x).group ≡ true
      → level ≤ (entrant_at row x).level
  pub some : level < level_count → HasOneAt row set level
