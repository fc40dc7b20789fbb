-- Tallies are far below the greatest number.
use Rattle.std.specs.Prelude.{ℕ, ◌*◌, ◌-◌, ◌≤◌, ◌^◌}
use Rattle.view_lives.specs.declared.tally.Tally.{Tally}

-- of at most so many waits
pub record AreFew (n : ℕ) (tally : Tally) : Type 0 where
  pub count : tally.count ≤ n
  pub total : tally.total ≤ n * 18446744073709551616

-- one wait more can be tallied
abbrev pub HasRoomForOne : Tally → Type 0
HasRoomForOne tally = AreFew (2 ^ 64 - 2) tally
