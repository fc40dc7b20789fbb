use Rattle.std.specs.Prelude.{◌≡◌, ℕ, ◌%◌, ◌<◌, Bool, true, false, ◌&&◌, nat_lt, List, length}
use Rattle.aps_model.specs.declared.shape.Free.{Free}
use Rattle.aps_model.specs.declared.merit.PartFacts.{PartFacts}
use Rattle.aps_model.specs.Merit.{is_candidate, is_greater}
use Rattle.aps_model.specs.Budget.{part_at}
use Rattle.aps_model.specs.Limits.{most_partitions}
use Rattle.aps_model.specs.Pick.{merit_among}
use Rattle.aps_ready.specs.declared.entrant.Entrant.{Entrant}
use Rattle.aps_ready.specs.Entrant.{entrant_at}
use Rattle.aps_ready.specs.Ready.{entrant_facts, entrant_contender}
use Rattle.aps_ready.specs.Best.{Sits}
use Rattle.aps_ready.specs.Group.{group_count}

-- somebody is there, and is a candidate
abbrev pub is_candidate_at : List PartFacts → Entrant → Bool
is_candidate_at parts e = nat_lt e.group group_count && is_candidate (entrant_facts e) (part_at parts (e.group % most_partitions))

-- the merit of the first is greater
abbrev pub is_above : Free → List PartFacts → Entrant → Entrant → Bool
is_above free parts a b = is_greater free (merit_among parts (entrant_contender a)) (merit_among parts (entrant_contender b))

-- a candidate above whom no candidate of the row is; nobody exactly where the row has no candidate
pub record IsWinner (free : Free) (parts : List PartFacts) (row : List Entrant) (best : Entrant) : Type 0 where
  pub open_here : best.group < group_count → is_candidate_at parts best ≡ true
  pub sits : best.group < group_count → Sits row best
  pub others : (x : ℕ) → x < length row → is_candidate_at parts (entrant_at row x) ≡ true
      → (best.group < group_count) × (is_above free parts (entrant_at row x) best ≡ false)
