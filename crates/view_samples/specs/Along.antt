-- Whether some entry of a history passes a test, each with all entries before it.
use Rattle.std.specs.Prelude.{ℕ, ◌/◌, List, [], ◌∷◌, ◌++◌, Bool, false, ◌||◌, ◌&&◌}
use Rattle.aps_model.specs.declared.entry.Entry.{Entry}
use Rattle.aps_model.specs.Loaded.{is_among}

abbrev pub any_along : (List Entry → Entry → Bool) → List Entry → List Entry → Bool
any_along test before [] = false
any_along test before (e ∷ es) = test before e || any_along test (before ++ e ∷ []) es

-- a test of the entry in its place, and of its tick
abbrev pub in_ticks : (List Entry → Entry → Bool) → (Entry → ℕ) → ℕ → ℕ → List Entry → Entry → Bool
in_ticks test tick_of a b before e = test before e && is_among a b (tick_of e)

-- some entry that ends in ticks a to b-1 passes the test
abbrev pub any_of : (List Entry → Entry → Bool) → ℕ → ℕ → ℕ → List Entry → Bool
any_of test tick a b h = any_along (in_ticks test (λ e. e.to / tick) a b) [] h
