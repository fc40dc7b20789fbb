-- A life and the journal tell the same of who runs.
use Rattle.std.specs.Prelude.{◌≡◌, ℕ, ◌<◌, ◌≤◌, ◌++◌, List, ◌∷◌, Bool, Some}
use Rattle.aps_model.specs.declared.entry.Entry.{Entry}
use Rattle.aps_model.specs.Scenario.{Scenario}
use Rattle.view_lives.specs.declared.doing.Doing.{Doing}
use Rattle.view_lives.specs.declared.doing.Doing.TheVariants.{Running}
use Rattle.view_lives.specs.declared.life.Segment.{Segment}
use Rattle.view_lives.specs.Whole.{doing_at}

-- the moment lies in the segment
pub record LiesIn (m : ℕ) (s : Segment) : Type 0 where
  pub from : s.from ≤ m
  pub to : m < s.to

-- the moment lies in one of these segments, which tells what is done then, and in no other
pub record LiesInOne (at : ℕ → Doing) (life : List Segment) (m : ℕ) : Type 0 where
  pub front : List Segment
  pub back : List Segment
  pub segment : Segment
  pub same : life ≡ front ++ segment ∷ back
  pub lies : LiesIn m segment
  pub told : at m ≡ segment.doing
  pub only : (front' back' : List Segment) (segment' : Segment) → life ≡ front' ++ segment' ∷ back' → LiesIn m segment' → front' ≡ front

-- the entry bills a partition, and at each moment from its beginning to before its end thread x runs on its processor, on that
-- bill and with its mark
pub record RunsAsBilled (scenario : Scenario) (h : List Entry) (e : Entry) (x : ℕ) : Type 0 where
  pub partition : ℕ
  pub billed : e.billed ≡ Some partition
  pub runs : (m : ℕ) → e.from ≤ m → m < e.to → doing_at scenario h x m ≡ Running e.cpu partition e.critical

-- an entry of the history runs thread x at this moment, on this processor and this bill, and with this mark
pub record IsBilledAt (h : List Entry) (x m c p : ℕ) (critical : Bool) : Type 0 where
  pub before : List Entry
  pub later : List Entry
  pub e : Entry
  pub same : h ≡ before ++ e ∷ later
  pub cpu : e.cpu ≡ c
  pub from : e.from ≤ m
  pub to : m < e.to
  pub ran : e.ran ≡ Some x
  pub billed : e.billed ≡ Some p
  pub mark : e.critical ≡ critical
