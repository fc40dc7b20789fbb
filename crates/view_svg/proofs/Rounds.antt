-- Round numbers.
use Rattle.std.proofs.Common.{ℕ, ◌+◌, ◌*◌, ◌<◌, ◌≤◌, arith}
use Rattle.view_svg.specs.Step.{IsRound, IsRound.one, IsRound.two, IsRound.five, IsRound.ten}

pub round_is_some : (n : ℕ) → IsRound n → 1 ≤ n
round_is_some n one = omega arith
round_is_some n two = omega arith
round_is_some n five = omega arith
round_is_some n (ten m is) = let some = round_is_some m is in omega (arith, some)

-- fewer of the same are fewer
pub fewer_times : (a b n : ℕ) → a * n < b * n + n → a ≤ b
fewer_times a b n less = grind arith

-- ten times a round number is as near as that
pub near_ten : (n m r : ℕ) → 6 ≤ n → m * 10 < n + 10 → (2 ≤ m → 2 * r + 5 ≤ 5 * m) → (m ≤ 1 → r ≤ 1) → 2 * (10 * r) + 5 ≤ 5 * n
near_ten n m r long times near few = grind arith
