-- Why a thread runs, or doesn't.
use Rattle.std.specs.Prelude.{ℕ, ◌+◌, ◌-◌, ◌*◌, ◌/◌, ◌&&◌, min, List, length, Bool, false, not, nat_eq, is_some, if◌then◌else◌, Option, Some, None}
use Rattle.std.specs.List.{filter_map, fold, range_with_len}
use Rattle.std.specs.Option.{option_map}
use Rattle.aps_model.specs.declared.state.Pick.{Pick}
use Rattle.aps_model.specs.declared.state.State.{State}
use Rattle.aps_model.specs.declared.state.State.TheVariants as state
use Rattle.aps_model.specs.Due.{due}
use Rattle.aps_model.specs.Pick.{is_ready}
use Rattle.aps_model.specs.SchedulerState.{cpu_at, thread_at}
use Rattle.view_explain.specs.declared.above.Above.{Above}
use Rattle.view_explain.specs.declared.because.Because.{Because}
use Rattle.view_explain.specs.declared.because.Because.TheVariants.{Running, Shut, NotYet, Outranked, Sleeping, WaitsForReply, WaitsForReceiver, WaitsForMessage, Gone}
use Rattle.view_explain.specs.declared.deciding.Test.{Test}
use Rattle.view_explain.specs.Ahead.{ahead}
use Rattle.view_explain.specs.Past.{Past, would_be_candidate, merit_in, state_of_past}
use Rattle.view_explain.specs.Ties.{newest_server}

-- ---- what is greater than a thread

-- by which test thread y is greater than thread x, if it is
abbrev pub ahead_in : Past → ℕ → ℕ → Option Test
ahead_in past y x = ahead (state_of_past past).shape.free (merit_in past y) (merit_in past x)

abbrev pub ahead_of_pick : Past → ℕ → Option Pick → Option Test
ahead_of_pick past x None = None
ahead_of_pick past x (Some pick) = ahead_in past pick.thread x

-- by which test what processor c runs is greater than thread x; an idle processor runs nothing that is
abbrev pub ahead_on : Past → ℕ → ℕ → Option Test
ahead_on past x c = ahead_of_pick past x (cpu_at (state_of_past past) c).running

-- thread y is another one, and a candidate
abbrev pub is_rival : Past → ℕ → ℕ → Bool
is_rival past x y = not (nat_eq y x) && (is_ready (thread_at (state_of_past past) y).state && would_be_candidate past y)

abbrev pub above_at : Past → ℕ → ℕ → Option Above
above_at past x y =
    if is_rival past x y then option_map (λ test. record { thread = y; test = test }) (ahead_in past y x) else None

-- the candidates that are greater than thread x, by number
abbrev pub above : Past → ℕ → List Above
above past x = filter_map (above_at past x) (range_with_len 0 (length past.scenario.threads))

-- ---- when a processor looks for a thread next

-- when processor c steps, where it runs nothing that is greater than thread x
abbrev pub chance_on : Past → ℕ → ℕ → Option ℕ
chance_on past x c = if is_some (ahead_on past x c) then None else Some (due (state_of_past past) past.entries c)

abbrev pub sooner : Option ℕ → Option ℕ → Option ℕ
sooner None other = other
sooner (Some moment) None = Some moment
sooner (Some moment) (Some other) = Some (min moment other)

-- the first of these moments
abbrev pub chance : Past → ℕ → Option ℕ
chance past x = fold (λ first c. sooner first (chance_on past x c)) None (range_with_len 0 past.scenario.shape.cpus)

-- ---- the cause

-- the first boundary at this moment or later
abbrev pub boundary_from : ℕ → ℕ → ℕ
boundary_from tick moment = (moment + tick - 1) / tick * tick

abbrev pub because_running : ℕ → Option Pick → Because
because_running c (Some pick) = Running c pick.partition pick.critical
because_running c None = Running c 0 false

-- a candidate waits for the next chance, or for all that is greater
abbrev pub waiting_by : Past → ℕ → Option ℕ → Because
waiting_by past x (Some moment) = NotYet moment
waiting_by past x None = Outranked past.scenario.shape.cpus (length (above past x))

abbrev pub because_ready : Past → ℕ → Because
because_ready past x = if would_be_candidate past x then waiting_by past x (chance past x) else Shut

abbrev pub because_by : Past → ℕ → State → Because
because_by past x state.Ready = because_ready past x
because_by past x (state.Running c) = because_running c (cpu_at (state_of_past past) c).running
because_by past x (state.Sleeping until) = Sleeping (boundary_from (state_of_past past).shape.tick until)
because_by past x (state.Sending c) = WaitsForReceiver c
because_by past x (state.Receiving c) = WaitsForMessage c
because_by past x (state.Replying y) = WaitsForReply y
because_by past x state.Gone = Gone

abbrev pub because : Past → ℕ → Because
because past x = because_by past x (thread_at (state_of_past past) x).state

-- ---- the threads that are explained

-- the server that a thread in this state waits for: its own one, or the one that took a message from the channel last
abbrev pub waits_for : Past → State → Option ℕ
waits_for past (state.Replying y) = Some y
waits_for past (state.Sending c) = newest_server (state_of_past past).triples c
waits_for past st = None
