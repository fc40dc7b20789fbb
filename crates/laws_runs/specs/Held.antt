-- Rows and shape hold where no change stands.
use Rattle.std.specs.Prelude.{◌≡◌, ℕ, ◌*◌, ◌<◌, ◌≤◌, ◌++◌, List, [], ◌∷◌}
use Rattle.aps_model.specs.declared.entry.Entry.{Entry}
use Rattle.aps_model.specs.After.{state_after}
use Rattle.aps_model.specs.Loaded.{state_of_tick}
use Rattle.aps_model.specs.Scenario.{Scenario}

-- the first history leaves the rows and the shape of tick a of the second
abbrev pub HasRowsOfTick : Scenario → List Entry → List Entry → ℕ → Type 0
HasRowsOfTick scenario g h a =
    ((state_after scenario g).rows ≡ (state_of_tick scenario h a).rows)
    × ((state_after scenario g).shape ≡ (state_of_tick scenario h a).shape)

-- each entry that ends in ticks a to b-1 leaves the rows and the shape of tick a
abbrev pub HoldsRows : Scenario → List Entry → ℕ → ℕ → Type 0
HoldsRows scenario h a b =
    (before later : List Entry) (e : Entry) → h ≡ before ++ e ∷ later → a * scenario.shape.tick ≤ e.to → e.to < b * scenario.shape.tick
    → HasRowsOfTick scenario (before ++ e ∷ []) h a
