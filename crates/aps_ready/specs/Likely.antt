use Rattle.std.specs.Prelude.{◌≡◌, ◌⊎◌, ℕ, ◌<◌, ◌&&◌, nat_lt, false, List}
use Rattle.aps_model.specs.declared.shape.Free.{Free}
use Rattle.aps_model.specs.declared.shape.Free.TheVariants.{Priority, Ratio}
use Rattle.aps_levels.specs.declared.bits.Bits64.{Bits64}
use Rattle.aps_levels.specs.Bits.{set_has}
use Rattle.aps_levels.specs.Levels.{level_count}
use Rattle.aps_ready.specs.declared.entrant.Entrant.{Entrant}
use Rattle.aps_ready.specs.declared.gates.Gates.{Gates}
use Rattle.aps_ready.specs.Firsts.{level_of, AreLeast, AreEmpty}
use Rattle.aps_ready.specs.Group.{group_count}

-- the groups of the set that aren't empty
abbrev pub AreOccupied : List Entrant → Bits64 → Bits64 → Type 0
AreOccupied firsts set found = (g : ℕ) → g < group_count → set_has found g ≡ (set_has set g && nat_lt (level_of firsts g) level_count)

-- the groups of class 0 that can have the greatest candidate, where none of class 1 has one
abbrev pub AreLikelySecond : Free → List Entrant → Bits64 → Bits64 → Type 0
AreLikelySecond Ratio firsts second found = AreOccupied firsts second found
AreLikelySecond Priority firsts second found =
    AreLeast firsts (set_has second) (set_has found) ⊎ (AreEmpty firsts second × ((g : ℕ) → g < group_count → set_has found g ≡ false))

-- the groups that can have the greatest candidate: of class 1 those at the highest priority, and else the same of class
-- 0, or all of that class where free time goes by ratio
abbrev pub AreLikely : Free → List Entrant → Gates → Bits64 → Type 0
AreLikely free firsts gates found =
    AreLeast firsts (set_has gates.first) (set_has found) ⊎ (AreEmpty firsts gates.first × AreLikelySecond free firsts gates.second found)
