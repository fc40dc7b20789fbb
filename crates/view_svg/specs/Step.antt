-- Round numbers.
use Rattle.std.specs.Prelude.{ℕ, ◌*◌}

-- no step is greater: ten times the last moment that is shown
abbrev pub greatest_step : ℕ
greatest_step = 1000000000000000000

-- 1, 2 or 5 times a power of ten
pub data IsRound : ℕ → Type 0 where
  one : IsRound 1
  two : IsRound 2
  five : IsRound 5
  ten : (n : ℕ) → IsRound n → IsRound (10 * n)
