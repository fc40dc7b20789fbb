-- Ticks in which every pick is of class 1.
use Rattle.std.specs.Prelude.{◌≡◌, ℕ, ◌+◌, ◌*◌, ◌<◌, ◌≤◌, ◌++◌, ◌&&◌, List, ◌∷◌, length, IsFalse, IsTrue}
use Rattle.aps_model.specs.declared.entry.Entry.{Entry}
use Rattle.aps_model.specs.After.{state_after}
use Rattle.aps_model.specs.Bound.{IsWithinBudget}
use Rattle.aps_model.specs.Loaded.{finished_ticks, has_change, IsSteady, state_of_tick}
use Rattle.aps_model.specs.Scenario.{Scenario}
use Rattle.laws_bounds.specs.FreeTime.{free_used, idle_time}
use Rattle.laws_bounds.specs.Kinds.{is_free, is_served, kind_of}
use Rattle.laws_bounds.specs.Lanes.{is_of}
use Rattle.laws_bounds.specs.Picks.{wide_at}

-- the entry's pick is of class 1; these are the entries before it
abbrev pub IsServedPick : Scenario → List Entry → Entry → Type 0
IsServedPick scenario before e = IsTrue (is_served (kind_of scenario before e))

-- every entry that ends in ticks a to b-1 makes such a pick
abbrev pub AreTicksServed : Scenario → List Entry → ℕ → ℕ → Type 0
AreTicksServed scenario h a b =
    (before later : List Entry) (e : Entry)
    → h ≡ before ++ e ∷ later
    → a * scenario.shape.tick ≤ e.to
    → e.to < b * scenario.shape.tick
    → IsServedPick scenario before e

-- in ticks a to b-1 there is no free time, and nobody stands idle
pub record AreTicksFull (scenario : Scenario) (h : List Entry) (a b : ℕ) : Type 0 where
  pub free : (p : ℕ) → free_used scenario scenario.shape.tick h p a b ≡ 0
  pub idle : idle_time scenario.shape.tick h a b ≡ 0

-- served ticks are full
abbrev pub FillsServed : Scenario → List Entry → Type 0
FillsServed scenario h = (a b : ℕ) → AreTicksServed scenario h a b → AreTicksFull scenario h a b

-- no entry that ends in ticks a to b-1 makes a free pick of the partition
abbrev pub HasNoFreePick : Scenario → List Entry → ℕ → ℕ → ℕ → Type 0
HasNoFreePick scenario h p a b =
    (before later : List Entry) (e : Entry)
    → h ≡ before ++ e ∷ later
    → a * scenario.shape.tick ≤ e.to
    → e.to < b * scenario.shape.tick
    → IsFalse (is_free (kind_of scenario before e) && is_of p (wide_at scenario before e).keeps)

-- such a partition has no free time in them
abbrev pub HasNoFreeTime : Scenario → List Entry → Type 0
HasNoFreeTime scenario h =
    (a b p : ℕ) → HasNoFreePick scenario h p a b → free_used scenario scenario.shape.tick h p a b ≡ 0

-- steady ticks that are finished are served
abbrev pub ServesSteady : Scenario → List Entry → Type 0
ServesSteady scenario h =
    (a b : ℕ)
    → b ≤ finished_ticks scenario.shape h
    → IsSteady scenario.shape.tick h (state_after scenario h).changes a b
    → AreTicksServed scenario h a b

-- each finished window of served ticks without a change keeps the bound, by the rows and the window of its first tick
abbrev pub KeepsServedBound : Scenario → List Entry → Type 0
KeepsServedBound scenario h =
    (a p : ℕ)
    → a + (state_of_tick scenario h a).shape.window ≤ finished_ticks scenario.shape h
    → IsFalse (has_change (state_after scenario h).changes a (a + (state_of_tick scenario h a).shape.window))
    → AreTicksServed scenario h a (a + (state_of_tick scenario h a).shape.window)
    → p < length (state_of_tick scenario h a).rows
    → IsWithinBudget (state_of_tick scenario h a).shape (state_of_tick scenario h a).rows h a p
