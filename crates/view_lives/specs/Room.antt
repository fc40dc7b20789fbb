-- The times of a cycle are far below the greatest number.
use Rattle.std.specs.Prelude.{ℕ, ◌≤◌, ◌^◌, Option, IfSome}
use Rattle.view_lives.specs.declared.cycle.Begun.{Begun}
use Rattle.view_lives.specs.declared.cycle.Times.{Times}

pub record AreAtMost (most : ℕ) (times : Times) : Type 0 where
  pub running : times.running ≤ most
  pub ready : times.ready ≤ most
  pub calling : times.calling ≤ most
  pub receiving : times.receiving ≤ most

-- the time of one segment more can be added
abbrev pub HasRoomInCycle : Option Begun → Type 0
HasRoomInCycle current = IfSome current (λ (begun : Begun). AreAtMost (2 ^ 127) begun.times)
