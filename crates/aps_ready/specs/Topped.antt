use Rattle.std.specs.Prelude.{ℕ, ◌<◌, List, map}
use Rattle.aps_ready.specs.declared.entrant.Entrant.{Entrant}
use Rattle.aps_ready.specs.Entrant.{entrant_at, IsFirst}
use Rattle.aps_ready.specs.Ready.{entrant_in}
use Rattle.aps_ready.specs.Group.{group_count}

-- the first of each group goes before all others of the group
abbrev pub AreTopped : List Entrant → List Entrant → Type 0
AreTopped row firsts = (g : ℕ) → g < group_count → IsFirst (map (entrant_in g) row) (entrant_at firsts g)
