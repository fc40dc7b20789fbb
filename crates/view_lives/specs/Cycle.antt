-- The cycles of a thread.
use Rattle.std.specs.Prelude.{ℕ, ◌+◌, ◌-◌, ◌++◌, List, [], ◌∷◌, Bool, true, false, if◌then◌else◌, Option, Some, None}
use Rattle.std.specs.List.{fold}
use Rattle.view_lives.specs.declared.cycle.Begun.{Begun}
use Rattle.view_lives.specs.declared.cycle.Cycle.{Cycle}
use Rattle.view_lives.specs.declared.cycle.Times.{Times}
use Rattle.view_lives.specs.declared.doing.Doing.{Doing}
use Rattle.view_lives.specs.declared.doing.Doing.TheVariants.{Ready, Running, Sleeping, Sending, Receiving, Replying, Gone}
use Rattle.view_lives.specs.declared.life.Segment.{Segment}

-- who sleeps or has gone is in no cycle
abbrev pub rests : Doing → Bool
rests Sleeping = true
rests Gone = true
rests doing = false

-- ---- where the time goes

abbrev pub no_time : Times
no_time = record { running = 0; ready = 0; calling = 0; receiving = 0 }

-- the times with so much of this more
abbrev pub with_time : Times → Doing → ℕ → Times
with_time times Ready ns = record times { ready = times.ready + ns }
with_time times (Running c p critical) ns = record times { running = times.running + ns }
with_time times (Sending c) ns = record times { calling = times.calling + ns }
with_time times (Replying x) ns = record times { calling = times.calling + ns }
with_time times (Receiving c) ns = record times { receiving = times.receiving + ns }
with_time times Sleeping ns = times
with_time times Gone ns = times

-- ---- cycles

-- those that have ended, in order, and the one that goes on
pub record Cycles : Type 0 where
  pub ended : List Cycle
  pub current : Option Begun

abbrev pub no_cycles : Cycles
no_cycles = record { ended = []; current = None }

-- the cycle that goes on, or one that begins at this moment
abbrev pub begun_or : Option Begun → ℕ → Begun
begun_or (Some begun) moment = begun
begun_or None moment = record { begin = moment; times = no_time }

-- the same with a segment more
abbrev pub gone_on : Option Begun → Segment → Begun
gone_on current segment =
    let begun = begun_or current segment.from in
    record begun { times = with_time begun.times segment.doing (segment.to - segment.from) }

-- the cycle that goes on ends at this moment
abbrev pub closing : List Cycle → Option Begun → ℕ → List Cycle
closing ended (Some begun) moment = ended ++ (record { begin = begun.begin; end = moment; times = begun.times }) ∷ []
closing ended None moment = ended

-- a segment of rest ends a cycle, and each other one goes on with it or begins one
abbrev pub with_segment : Cycles → Segment → Cycles
with_segment cycles segment =
    if rests segment.doing
    then record { ended = closing cycles.ended cycles.current segment.from; current = None }
    else record { ended = cycles.ended; current = Some (gone_on cycles.current segment) }

-- the cycles of a life
abbrev pub cycles_in : List Segment → Cycles
cycles_in life = fold with_segment no_cycles life
