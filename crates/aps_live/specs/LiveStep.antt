-- One step of a processor at a moment that its caller brings.
use Rattle.std.specs.Prelude.{ℕ, ◌+◌, ◌/◌, ◌++◌, List, [], ◌∷◌, map, Bool, true, false, Option, Some, None}
use Rattle.std.specs.List.{filter}
use Rattle.std.specs.Option.{option_map}
use Rattle.aps_model.specs.declared.entry.Entry.{Entry}
use Rattle.aps_model.specs.declared.merit.Contender.{Contender}
use Rattle.aps_model.specs.declared.merit.PartFacts.{PartFacts}
use Rattle.aps_model.specs.declared.shape.Free.{Free}
use Rattle.aps_model.specs.declared.state.Pick.{Pick}
use Rattle.aps_model.specs.Bill.{bill_of}
use Rattle.aps_model.specs.Budget.{all_parts, part_at}
use Rattle.aps_model.specs.Due.{last_end}
use Rattle.aps_model.specs.Merit.{is_critical_pick}
use Rattle.aps_model.specs.Pick.{greatest, missing}
use Rattle.aps_model.specs.Scenario.{Scenario}
use Rattle.aps_live.specs.declared.event.LiveEvent.{LiveEvent}
use Rattle.aps_live.specs.declared.event.LiveEvent.TheVariants.{Stay, Block, Wake}
use Rattle.aps_live.specs.declared.thread.LiveThread.{LiveThread}
use Rattle.aps_live.specs.declared.thread.Doing.{Doing}
use Rattle.aps_live.specs.declared.thread.Doing.TheVariants.{Waiting, Ready, Running}
use Rattle.aps_live.specs.LiveState.{LiveState, live_cpu_at, live_thread_at, with_doing, with_live_cpu, with_live_thread}

-- ---- the thread that ran

-- it waits where it blocks, and is ready otherwise
abbrev pub doing_after : LiveEvent → Doing
doing_after Stay = Ready
doing_after Block = Waiting
doing_after (Wake x) = Ready

-- the processor lets go of the thread that it ran, which keeps its stamp
abbrev pub released : LiveState → ℕ → Doing → Option Pick → LiveState
released s c doing None = s
released s c doing (Some pick) = with_live_cpu (with_doing s pick.thread doing) c None

-- ---- the thread that is woken

-- where it waits it is ready with a new stamp
abbrev pub ready_again : LiveState → ℕ → LiveThread → Doing → LiveState
ready_again s x thread Waiting = record s {
  threads = (with_live_thread s x (record thread { contender = record thread.contender { stamp = s.stamps }; doing = Ready })).threads;
  stamps = s.stamps + 1;
}
ready_again s x thread Ready = s
ready_again s x thread (Running c) = s

abbrev pub woken : LiveState → LiveEvent → LiveState
woken s Stay = s
woken s Block = s
woken s (Wake x) = ready_again s x (live_thread_at s x) (live_thread_at s x).doing

-- ---- the pick

abbrev pub is_waking : Doing → Bool
is_waking Waiting = false
is_waking Ready = true
is_waking (Running c) = false

-- the ready threads, in order of their numbers
abbrev pub live_contenders : LiveState → List Contender
live_contenders s =
    map (λ (t : LiveThread). t.contender) (filter (λ (t : LiveThread). is_waking t.doing) s.threads)

-- the processor keeps the greatest candidate
abbrev pub live_chosen : LiveState → List PartFacts → ℕ → Option Contender → LiveState
live_chosen s parts c None = with_live_cpu s c None
live_chosen s parts c (Some best) =
    with_live_cpu (with_doing s best.thread (Running c)) c (Some (record {
      thread = best.thread;
      partition = best.facts.partition;
      critical = is_critical_pick best.facts (part_at parts best.facts.partition);
    }))

-- ---- the step

-- an entry, and the state that its step leaves
pub record LiveStep : Type 0 where
  pub entry : Entry
  pub state : LiveState

-- what the processor ran since its last entry, up to now
abbrev pub live_bill : LiveState → List Entry → ℕ → ℕ → Entry
live_bill s h c now = bill_of c (last_end h c) now (live_cpu_at s c)

-- the state before the pick
abbrev pub live_settled : LiveState → ℕ → LiveEvent → LiveState
live_settled s c event = woken (released s c (doing_after event) (live_cpu_at s c)) event

-- how each partition stands at the pick, over the entries before it and the bill
abbrev pub live_parts : Scenario → List Entry → ℕ → Entry → List PartFacts
live_parts scenario h now e = all_parts scenario.shape scenario.partitions (h ++ e ∷ []) (now / scenario.shape.tick)

-- the pick, and the entry with it
abbrev pub live_pick : Free → List PartFacts → LiveState → ℕ → Entry → LiveStep
live_pick free parts s c e =
    let ready = live_contenders s in
    let best = greatest free parts ready in
    record {
      entry = record e { picked = option_map (λ (b : Contender). b.thread) best; starved = missing parts ready };
      state = live_chosen s parts c best;
    }

-- one step of processor c at this moment, with the caller's event
abbrev pub live_step : Scenario → LiveState → List Entry → ℕ → ℕ → LiveEvent → LiveStep
live_step scenario s h c now event =
    let e = live_bill s h c now in
    live_pick scenario.shape.free (live_parts scenario h now e) (live_settled s c event) c e
