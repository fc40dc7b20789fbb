use Rattle.std.proofs.Common.{◌≡◌, ℕ, ◌<◌, nat_lt, List, subst}
use Rattle.aps_levels.specs.Bits.{set_has}
use Rattle.aps_levels.specs.Levels.{level_count}
use Rattle.aps_ready.specs.declared.entrant.Entrant.{Entrant}
use Rattle.aps_ready.specs.Firsts.{firsts_of, level_of}
use Rattle.aps_ready.proofs.Looks.{are_occupied}
use Rattle.aps_ready.proofs.lists.Lists.occupied.Goals as goal
use Rattle.aps_ready.specs.Group.{group_count}

pub returns : goal.returns
returns c =
    let s = c.self.inside in
    subst (λ (row : List Entrant). (g : ℕ) → g < group_count → set_has c.occupied.result g ≡ nat_lt (level_of (firsts_of row) g) level_count) c.self.view_is
    (are_occupied s.row.items s.after.items s.before.items s.table c.occupied.result c.self.invariant c.occupied.ensures.some c.occupied.ensures.all)
