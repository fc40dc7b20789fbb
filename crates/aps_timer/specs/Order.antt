-- Who of two sleepers goes first.
use Rattle.std.specs.Prelude.{ℕ, nat_le, Bool, true, false, if◌then◌else◌, Option, Some, None}
use Rattle.aps_model.specs.TickWork.{is_earlier}

-- one sleeper goes before another; where there is none it comes last
abbrev pub wakes_before : Option (ℕ × ℕ) → Option (ℕ × ℕ) → Bool
wakes_before None b = false
wakes_before (Some a) None = true
wakes_before (Some a) (Some b) = is_earlier a b

abbrev pub earlier_sleeper : Option (ℕ × ℕ) → Option (ℕ × ℕ) → Option (ℕ × ℕ)
earlier_sleeper a b = if wakes_before b a then b else a

-- there is a sleeper, and it wakes at or before this moment
abbrev pub wakes_by : Option (ℕ × ℕ) → ℕ → Bool
wakes_by None moment = false
wakes_by (Some s) moment = nat_le s.0 moment
