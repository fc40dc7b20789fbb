-- The codes of signals.
use Rattle.std.specs.Prelude.{ℕ, ◌+◌, ◌-◌, ◌/◌, ◌%◌, List, [], ◌∷◌, nat_lt, min, if◌then◌else◌}

-- the character for one of 94 digits
abbrev pub digit : ℕ → ℕ
digit value = 33 + value

-- so many codes of one digit or two are there
abbrev pub code_count : ℕ
code_count = 8930

-- one digit, or two, of which the second counts more
abbrev pub signal_code : ℕ → List ℕ
signal_code signal = if nat_lt signal 94 then digit (signal % 94) ∷ [] else digit (signal % 94) ∷ digit (min (signal / 94 - 1) 93) ∷ []
