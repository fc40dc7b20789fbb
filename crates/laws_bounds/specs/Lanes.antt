-- Where lanes stand after some entries, and whose runs they are.
use Rattle.std.specs.Prelude.{ℕ, ◌*◌, Bool, false, ◌&&◌, nat_eq, nat_le, nat_lt, not, if◌then◌else◌, List, [], ◌∷◌, slice_set, Some, None}
use Rattle.std.specs.List.{sum_by}
use Rattle.aps_model.specs.Usage.{overlap}
use Rattle.laws_runs.specs.Window.{Kept, Lane, Wide, lane_after}

-- the lanes after these entries
abbrev pub lanes_at : List Lane → List Wide → List Lane
lanes_at lanes [] = lanes
lanes_at lanes (e ∷ es) = lanes_at (slice_set lanes e.cpu (lane_after e)) es

-- the moment lies in ticks a to b-1
abbrev pub in_window : ℕ → ℕ → ℕ → ℕ → Bool
in_window tick a b moment = nat_le (a * tick) moment && nat_lt moment (b * tick)

-- a run of the partition, an ordinary one, or a critical one
abbrev pub is_of : ℕ → Kept → Bool
is_of p None = false
is_of p (Some k) = nat_eq k.0 p

abbrev pub is_ordinary : ℕ → Kept → Bool
is_ordinary p None = false
is_ordinary p (Some k) = nat_eq k.0 p && not k.1

abbrev pub is_critical : ℕ → Kept → Bool
is_critical p None = false
is_critical p (Some k) = nat_eq k.0 p && k.1

-- what an entry adds to ticks a to b-1, of the runs that count
abbrev pub paid : (Kept → Bool) → ℕ → ℕ → ℕ → Wide → ℕ
paid counts tick a b e = if counts e.bills then overlap tick a b e.from e.to else 0

-- what the entries add of the partition's runs
abbrev pub paid_of : ℕ → ℕ → ℕ → List Wide → ℕ → ℕ
paid_of tick a b entries p = sum_by (paid (is_of p) tick a b) entries
