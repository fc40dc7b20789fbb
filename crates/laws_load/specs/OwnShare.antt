-- What a partition gets that has work.
use Rattle.std.specs.Prelude.{◌≡◌, ℕ, ◌+◌, ◌-◌, ◌*◌, ◌/◌, ◌<◌, ◌≤◌, ◌⊎◌, ◌++◌, List, [], ◌∷◌, length, true, false, IsFalse}
use Rattle.aps_model.specs.declared.entry.Entry.{Entry}
use Rattle.aps_model.specs.declared.partition.PartitionRow.{PartitionRow}
use Rattle.aps_model.specs.declared.shape.Shape.{Shape}
use Rattle.aps_model.specs.After.{state_after}
use Rattle.aps_model.specs.Bound.{others_slack}
use Rattle.aps_model.specs.Loaded.{finished_ticks, has_change, state_of_tick}
use Rattle.aps_model.specs.Partition.{row_or_none}
use Rattle.aps_model.specs.Scenario.{Scenario}
use Rattle.aps_model.specs.Shape.{whole}
use Rattle.aps_model.specs.Usage.{used, window_used}
use Rattle.laws_bounds.specs.Excess.{others_margin}
use Rattle.laws_bounds.specs.Kinds.{is_funded}
use Rattle.laws_bounds.specs.Served.{AreTicksServed}
use Rattle.laws_load.specs.Work.{HasWork}

-- in ticks a to b-1 the partition has work at each pick at which it is in budget
abbrev pub WorksInBudget : Scenario → List Entry → ℕ → ℕ → ℕ → Type 0
WorksInBudget scenario h p a b =
    (before later : List Entry) (e : Entry)
    → h ≡ before ++ e ∷ later
    → a * scenario.shape.tick ≤ e.to
    → e.to < b * scenario.shape.tick
    → is_funded scenario (before ++ e ∷ []) p ≡ true
    → HasWork scenario before e p

-- an entry that ends in ticks a to b-1 and finds the partition out of budget
pub record FindsSpent (scenario : Scenario) (h : List Entry) (p a b : ℕ) : Type 0 where
  pub before : List Entry
  pub later : List Entry
  pub e : Entry
  pub same : h ≡ before ++ e ∷ later
  pub low : a * scenario.shape.tick ≤ e.to
  pub high : e.to < b * scenario.shape.tick
  pub out : is_funded scenario (before ++ e ∷ []) p ≡ false

-- in the window at tick j the partition has its whole share, with nothing missing
abbrev pub HasWholeShare : Shape → List PartitionRow → List Entry → ℕ → ℕ → Type 0
HasWholeShare shape rows h j p = (row_or_none rows p).budget * whole shape ≤ shape.parts * window_used shape h j p

-- some pick in the window from tick a on finds the partition out of budget, and in the window at the tick of each such
-- pick it has its whole share
pub record HadShare (scenario : Scenario) (shape : Shape) (rows : List PartitionRow) (h : List Entry) (a p : ℕ) : Type 0 where
  pub some : FindsSpent scenario h p a (a + shape.window)
  pub each : (spent : FindsSpent scenario h p a (a + shape.window)) → HasWholeShare shape rows h (spent.e.to / shape.tick) p

-- the window from tick a on is served, and in it the partition falls short of its budget by at most what the others may
-- take beyond theirs
pub record GetsShare (scenario : Scenario) (shape : Shape) (rows : List PartitionRow) (h : List Entry) (a p : ℕ) : Type 0 where
  pub served : AreTicksServed scenario h a (a + shape.window)
  pub below : (row_or_none rows p).budget * whole shape
      ≤ shape.parts * used shape.tick h p a (a + shape.window) + shape.parts * others_slack shape rows h a p

abbrev pub HasOwnShare : Scenario → Shape → List PartitionRow → List Entry → ℕ → ℕ → Type 0
HasOwnShare scenario shape rows h a p = HadShare scenario shape rows h a p ⊎ GetsShare scenario shape rows h a p

-- in the window at some tick of the window from tick a on, the partition falls short by at most that
pub record SharesInTime (shape : Shape) (rows : List PartitionRow) (h : List Entry) (a p : ℕ) : Type 0 where
  pub tick : ℕ
  pub from : a ≤ tick
  pub below : tick < a + shape.window
  pub share : (row_or_none rows p).budget * whole shape
      ≤ shape.parts * window_used shape h tick p + shape.parts * others_slack shape rows h a p

-- in the window from tick a on and the ticks before it, one less than a window has, it falls short by at most that
abbrev pub SharesInTwo : Shape → List PartitionRow → List Entry → ℕ → ℕ → Type 0
SharesInTwo shape rows h a p =
    (row_or_none rows p).budget * whole shape
    ≤ shape.parts * used shape.tick h p (a + 1 - shape.window) (a + shape.window) + shape.parts * others_slack shape rows h a p

-- what a partition gets that has work whenever it is in budget, in a finished window without a change
pub record GetsItsOwn (scenario : Scenario) (shape : Shape) (rows : List PartitionRow) (h : List Entry) (a p : ℕ) : Type 0 where
  pub own : HasOwnShare scenario shape rows h a p
  pub in_time : SharesInTime shape rows h a p
  pub in_two : SharesInTwo shape rows h a p

abbrev pub KeepsOwnShare : Scenario → List Entry → Type 0
KeepsOwnShare scenario h =
    (a p : ℕ)
    → a + (state_of_tick scenario h a).shape.window ≤ finished_ticks scenario.shape h
    → IsFalse (has_change (state_after scenario h).changes a (a + (state_of_tick scenario h a).shape.window))
    → p < length (state_of_tick scenario h a).rows
    → WorksInBudget scenario h p a (a + (state_of_tick scenario h a).shape.window)
    → GetsItsOwn scenario (state_of_tick scenario h a).shape (state_of_tick scenario h a).rows h a p

-- ---- in budget all the while

-- at each pick in ticks a to b-1 the partition is in budget, and has work
abbrev pub IsSupplied : Scenario → List Entry → ℕ → ℕ → ℕ → Type 0
IsSupplied scenario h p a b =
    (before later : List Entry) (e : Entry)
    → h ≡ before ++ e ∷ later
    → a * scenario.shape.tick ≤ e.to
    → e.to < b * scenario.shape.tick
    → (is_funded scenario (before ++ e ∷ []) p ≡ true) × HasWork scenario before e p

-- in ticks a to b-1 the partition gets what is left of the time of all processors when the others have had their budgets
-- and their margins; so they are few where it gets no time at all
pub record GetsTheRest (shape : Shape) (rows : List PartitionRow) (h : List Entry) (a b p : ℕ) : Type 0 where
  pub rest : shape.parts * (shape.cpus * ((b - a) * shape.tick))
      ≤ shape.parts * used shape.tick h p a b + (shape.parts - (row_or_none rows p).budget) * whole shape
      + shape.parts * others_margin shape rows h a b p
  pub few : used shape.tick h p a b ≡ 0 → shape.parts * (shape.cpus * ((b - a) * shape.tick))
      ≤ (shape.parts - (row_or_none rows p).budget) * whole shape + shape.parts * others_margin shape rows h a b p

-- such a partition does, in finished ticks without a change, at most as many as a window has
abbrev pub KeepsSupply : Scenario → List Entry → Type 0
KeepsSupply scenario h =
    (a b p : ℕ)
    → a ≤ b
    → b ≤ a + (state_of_tick scenario h a).shape.window
    → b ≤ finished_ticks scenario.shape h
    → IsFalse (has_change (state_after scenario h).changes a b)
    → p < length (state_of_tick scenario h a).rows
    → IsSupplied scenario h p a b
    → GetsTheRest (state_of_tick scenario h a).shape (state_of_tick scenario h a).rows h a b p
