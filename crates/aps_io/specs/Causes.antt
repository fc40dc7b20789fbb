-- What a count of faults tells.
use Rattle.std.specs.Prelude.{ℕ, ◌+◌, ◌-◌, ◌^◌, ◌≤◌, min}

-- the greatest count: a `u64` that stands there counts no further
abbrev pub greatest_count : ℕ
greatest_count = 2 ^ 64 - 1

-- one more, as far as a count goes
abbrev pub counted : ℕ → ℕ
counted before = min (before + 1) greatest_count

-- the count is greater than before, or stands at the greatest number
abbrev pub Rose : ℕ → ℕ → Type 0
Rose before now = counted before ≤ now
