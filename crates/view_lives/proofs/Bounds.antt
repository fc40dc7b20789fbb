-- How large the times of a cycle get.
use Rattle.std.proofs.Common.{ℕ, ◌+◌, ◌-◌, ◌≤◌, Option, Some, None, inl, inr, arith}
use Rattle.std.specs.Prelude.{IfSome}
use Rattle.std.proofs.lemmas.Bool.{cases_Bool}
use Rattle.view_lives.specs.declared.cycle.Begun.{Begun}
use Rattle.view_lives.specs.declared.cycle.Times.{Times}
use Rattle.view_lives.specs.declared.doing.Doing.{Doing}
use Rattle.view_lives.specs.declared.doing.Doing.TheVariants.{Ready, Running, Sleeping, Sending, Receiving, Replying, Gone}
use Rattle.view_lives.specs.declared.life.Segment.{Segment}
use Rattle.view_lives.specs.Cycle.{Cycles, gone_on, no_time, rests, with_segment, with_time}
use Rattle.view_lives.specs.Room.{AreAtMost}

-- the times that a cycle that goes on has, if one does
abbrev pub AreSmall : ℕ → Option Begun → Type 0
AreSmall n current = IfSome current (λ (begun : Begun). AreAtMost n begun.times)

module _ (n k ns : ℕ) (short : ns ≤ k) where
  more_time : (times : Times) (doing : Doing) → AreAtMost n times → AreAtMost (n + k) (with_time times doing ns)
  more_time times Ready small = record { running = omega (arith, small.running); ready = omega (arith, small.ready); calling = omega (arith, small.calling); receiving = omega (arith, small.receiving) }
  more_time times (Running c p m) small = record { running = omega (arith, small.running); ready = omega (arith, small.ready); calling = omega (arith, small.calling); receiving = omega (arith, small.receiving) }
  more_time times (Sending c) small = record { running = omega (arith, small.running); ready = omega (arith, small.ready); calling = omega (arith, small.calling); receiving = omega (arith, small.receiving) }
  more_time times (Replying x) small = record { running = omega (arith, small.running); ready = omega (arith, small.ready); calling = omega (arith, small.calling); receiving = omega (arith, small.receiving) }
  more_time times (Receiving c) small = record { running = omega (arith, small.running); ready = omega (arith, small.ready); calling = omega (arith, small.calling); receiving = omega (arith, small.receiving) }
  more_time times Sleeping small = record { running = omega (arith, small.running); ready = omega (arith, small.ready); calling = omega (arith, small.calling); receiving = omega (arith, small.receiving) }
  more_time times Gone small = record { running = omega (arith, small.running); ready = omega (arith, small.ready); calling = omega (arith, small.calling); receiving = omega (arith, small.receiving) }

nothing_small : (n : ℕ) → AreAtMost n no_time
nothing_small n = record { running = omega arith; ready = omega arith; calling = omega arith; receiving = omega arith }

gone_small : (n k : ℕ) (current : Option Begun) (segment : Segment) → segment.to - segment.from ≤ k → AreSmall n current → AreAtMost (n + k) (gone_on current segment).times
gone_small n k (Some begun) segment short small = more_time n k (segment.to - segment.from) short begun.times segment.doing small
gone_small n k None segment short small = more_time n k (segment.to - segment.from) short no_time segment.doing (nothing_small n)

-- with one segment more
pub small_more : (n k : ℕ) (cycles : Cycles) (segment : Segment) → segment.to - segment.from ≤ k → AreSmall n cycles.current → AreSmall (n + k) (with_segment cycles segment).current
small_more n k cycles segment short small =
    elim (cases_Bool (rests segment.doing)) [
      | inl at_rest ↦ rw at_rest tt
      | inr awake ↦ rw awake (gone_small n k cycles.current segment short small)
    ]
