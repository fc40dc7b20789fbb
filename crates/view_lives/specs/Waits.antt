-- How long a thread waits until it runs.
use Rattle.std.specs.Prelude.{◌-◌, List, Bool, true, false, if◌then◌else◌, Option, Some, None}
use Rattle.std.specs.List.{fold}
use Rattle.view_lives.specs.declared.cycle.Cycle.{Cycle}
use Rattle.view_lives.specs.declared.doing.Doing.{Doing}
use Rattle.view_lives.specs.declared.doing.Doing.TheVariants.{Ready, Running}
use Rattle.view_lives.specs.declared.life.Segment.{Segment}
use Rattle.view_lives.specs.declared.tally.Tally.{Tally}
use Rattle.view_lives.specs.declared.waits.Wait.{Wait}
use Rattle.view_lives.specs.declared.waits.Wait.TheVariants.{No, Woken, Preempted}
use Rattle.view_lives.specs.declared.waits.Waits.{Waits}
use Rattle.view_lives.specs.Tally.{no_tally, tallied}

abbrev pub is_running : Doing → Bool
is_running (Running c p critical) = true
is_running doing = false

abbrev pub is_running_last : Option Segment → Bool
is_running_last (Some segment) = is_running segment.doing
is_running_last None = false

-- ---- one wait

-- who runs at once when it could has waited for no time
abbrev pub woken_if_running : Segment → Wait
woken_if_running segment = if is_running segment.doing then Woken segment.from 0 else No

-- a segment in which the thread was ready, behind one in which it ran or not
abbrev pub waited : Segment → Bool → Wait
waited segment behind_running =
    if behind_running then Preempted segment.from (segment.to - segment.from) else Woken segment.from (segment.to - segment.from)

abbrev pub wait_behind : Segment → Bool → Segment → Doing → Wait
wait_behind segment behind_running next Ready = waited segment behind_running
wait_behind segment behind_running next (Running c p critical) = No
wait_behind segment behind_running next doing = woken_if_running next

-- what the next segment tells of a wait: a segment in which the thread was ready counts once another stands behind it
abbrev pub wait_at : Option Segment → Bool → Segment → Wait
wait_at None behind_running next = woken_if_running next
wait_at (Some segment) behind_running next = wait_behind segment behind_running next segment.doing

-- ---- all waits

abbrev pub with_wake : Tally → Wait → Tally
with_wake tally (Woken begin ns) = tallied tally begin ns
with_wake tally wait = tally

abbrev pub with_preempted : Tally → Wait → Tally
with_preempted tally (Preempted begin ns) = tallied tally begin ns
with_preempted tally wait = tally

abbrev pub no_waits : Waits
no_waits = record { wake = no_tally; preempted = no_tally; last = None; behind_running = false }

abbrev pub with_next : Waits → Segment → Waits
with_next waits next =
    let wait = wait_at waits.last waits.behind_running next in
    record {
      wake = with_wake waits.wake wait;
      preempted = with_preempted waits.preempted wait;
      last = Some next;
      behind_running = is_running_last waits.last;
    }

-- the waits of a life
abbrev pub waits_in : List Segment → Waits
waits_in life = fold with_next no_waits life

-- ---- cycles

abbrev pub with_cycle : Tally → Cycle → Tally
with_cycle tally cycle = tallied tally cycle.begin (cycle.end - cycle.begin)

abbrev pub cycle_tally : List Cycle → Tally
cycle_tally cycles = fold with_cycle no_tally cycles
