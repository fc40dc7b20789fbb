-- What of a window lies behind the lanes, and whether nobody was idle there.
use Rattle.std.specs.Prelude.{◌≡◌, ℕ, ◌<◌, Bool, List, [], ◌∷◌, Some}
use Rattle.aps_model.specs.Usage.{overlap}
use Rattle.laws_runs.specs.Window.{Lane, Wide}

-- what of the time before the lane's last step lies in ticks a to b-1
abbrev pub past : ℕ → ℕ → ℕ → Lane → ℕ
past tick a b l = overlap tick a b 0 l.last

-- each entry that lies in the window at all is billed to one of the first n partitions
abbrev pub Filled : ℕ → ℕ → ℕ → ℕ → List Wide → Type 0
Filled tick a b n [] = Unit {0}
Filled tick a b n (e ∷ es) = (0 < overlap tick a b e.from e.to → (k : ℕ × Bool) × (e.bills ≡ Some k) × (k.0 < n)) × Filled tick a b n es
