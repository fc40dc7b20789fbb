-- What lanes owe a window, and the picks at which they begin to owe.
use Rattle.std.specs.Prelude.{◌≡◌, ℕ, ◌+◌, ◌-◌, ◌*◌, ◌≤◌, Bool, true, false, ◌&&◌, if◌then◌else◌, List, [], ◌∷◌}
use Rattle.aps_model.specs.Due.{next_boundary}
use Rattle.laws_runs.specs.Window.{Kept, Lane, Wide}
use Rattle.laws_bounds.specs.Lanes.{in_window, paid}

-- what a lane may still add to ticks a to b-1, of the runs that count
abbrev pub debt : (Kept → Bool) → ℕ → ℕ → ℕ → Lane → ℕ
debt counts tick a b l = if counts l.runs && in_window tick a b l.last then next_boundary tick l.last - l.last else 0

-- at each pick in the window that counts, what was counted so far is within the limit
abbrev pub Resets : (Kept → Bool) → ℕ → ℕ → ℕ → ℕ → ℕ → ℕ → List Wide → Type 0
Resets counts tick a b scale limit so_far [] = Unit {0}
Resets counts tick a b scale limit so_far (e ∷ es) =
    (counts e.keeps ≡ true → in_window tick a b e.to ≡ true → scale * (so_far + paid counts tick a b e) ≤ limit)
    × Resets counts tick a b scale limit (so_far + paid counts tick a b e) es

-- no pick in the window counts
abbrev pub Never : (Kept → Bool) → ℕ → ℕ → ℕ → List Wide → Type 0
Never counts tick a b [] = Unit {0}
Never counts tick a b (e ∷ es) = (counts e.keeps ≡ true → in_window tick a b e.to ≡ false) × Never counts tick a b es
