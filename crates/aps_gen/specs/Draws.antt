-- Numbers that look random, drawn one after the other.
use Rattle.std.specs.Prelude.{ℕ, ◌+◌, ◌*◌, ◌/◌, ◌%◌, ◌^◌}

-- the state that a draw leaves
abbrev pub next : ℕ → ℕ
next state = (state * 6364136223846793005 + 1442695040888963407) % 2 ^ 64

-- the value below n of the draw that leaves this state
abbrev pub drawn : ℕ → ℕ → ℕ
drawn n state = (state / 2 ^ 33) % n
