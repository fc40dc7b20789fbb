use Rattle.std.specs.Prelude.{◌≡◌, ℕ, ◌<◌, ◌≤◌, Bool, true, false, List, length}
use Rattle.aps_model.specs.declared.merit.PartFacts.{PartFacts}
use Rattle.aps_model.specs.Limits.{greatest_priority}
use Rattle.aps_ready.specs.declared.entrant.Entrant.{Entrant}
use Rattle.aps_ready.specs.Entrant.{entrant_at}
use Rattle.aps_ready.specs.Choice.{is_ahead}
use Rattle.aps_ready.specs.Group.{group_count}

-- somebody sits there
pub record Sits (row : List Entrant) (e : Entrant) : Type 0 where
  pub place : ℕ
  pub within : place < length row
  pub is : entrant_at row place ≡ e

-- of those in these groups nobody is ahead of the best, who is one of them; nobody is best where these groups are empty
pub record IsBest (parts : List PartFacts) (row : List Entrant) (among : ℕ → Bool) (best : Entrant) : Type 0 where
  pub inside : best.group < group_count → among best.group ≡ true
  pub sits : best.group < group_count → Sits row best
  pub nobody : best.level ≤ greatest_priority → best.group < group_count
  pub others : (x : ℕ) → x < length row → (entrant_at row x).group < group_count → among (entrant_at row x).group ≡ true
      → (best.group < group_count) × (is_ahead parts (entrant_at row x) best ≡ false)
