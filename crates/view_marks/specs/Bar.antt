-- What one processor ran: bars, each of one thread on one bill. Moments are ns.
use Rattle.std.specs.Prelude.{◌≡◌, ℕ, ◌-◌, ◌<◌, ◌++◌, List, [], ◌∷◌, length, slice_index_or, slice_set, Bool, false, not, nat_eq, nat_lt, ◌&&◌, if◌then◌else◌, Option, Some, None}
use Rattle.aps_model.specs.declared.entry.Entry.{Entry}
use Rattle.aps_model.specs.After.{state_after}
use Rattle.aps_model.specs.Scenario.{Scenario}
use Rattle.aps_model.specs.SchedulerState.{SchedulerState, thread_at}
use Rattle.view_marks.specs.declared.bar.Bar.{Bar}

-- ---- the bar of an entry

-- the own partition of its thread is that in the state before the entry's step
abbrev pub bar_by : SchedulerState → Entry → Option ℕ → Option ℕ → Option Bar
bar_by s e (Some x) (Some p) =
    if nat_lt e.from e.to
    then Some (record { from = e.from; to = e.to; thread = x; partition = p; own = (thread_at s x).own.partition; critical = e.critical })
    else None
bar_by s e (Some x) None = None
bar_by s e None billed = None

-- an entry has a bar where it takes time and its processor ran a thread
abbrev pub bar_of : SchedulerState → Entry → Option Bar
bar_of s e = bar_by s e e.ran e.billed

-- ---- a lane with one bar more

-- what is read where there is no bar
abbrev pub no_bar : Bar
no_bar = record { from = 0; to = 0; thread = 0; partition = 0; own = 0; critical = false }

abbrev pub last_bar : List Bar → Bar
last_bar lane = slice_index_or lane (length lane - 1) no_bar

-- the second begins where the first ends, and is the same in all else
abbrev pub is_followed : Bar → Bar → Bool
is_followed bar next =
    nat_eq bar.to next.from && (nat_eq bar.thread next.thread && (nat_eq bar.partition next.partition && (nat_eq bar.own next.own
    && (if bar.critical then next.critical else not next.critical))))

abbrev pub lane_goes_on : List Bar → Bar → Bool
lane_goes_on lane bar = nat_lt 0 (length lane) && is_followed (last_bar lane) bar

-- the lane with its last bar up to this moment
abbrev pub lengthened_lane : List Bar → ℕ → List Bar
lengthened_lane lane moment = slice_set lane (length lane - 1) (record (last_bar lane) { to = moment })

-- a bar that follows on the last one lengthens it, and is one of its own where it doesn't
abbrev pub joined_bar : List Bar → Bar → List Bar
joined_bar lane bar = if lane_goes_on lane bar then lengthened_lane lane bar.to else lane ++ bar ∷ []

abbrev pub with_bar : List Bar → Option Bar → List Bar
with_bar lane None = lane
with_bar lane (Some bar) = joined_bar lane bar

-- ---- the lane by the entries

-- an entry goes into the lane of its processor; this is that of processor c
abbrev pub lane_with_entry : SchedulerState → ℕ → List Bar → Entry → List Bar
lane_with_entry s c lane e = if nat_eq e.cpu c then with_bar lane (bar_of s e) else lane

abbrev pub lane_from : Scenario → ℕ → List Bar → List Entry → List Entry → List Bar
lane_from scenario c lane h [] = lane
lane_from scenario c lane h (e ∷ es) = lane_from scenario c (lane_with_entry (state_after scenario h) c lane e) (h ++ e ∷ []) es

-- what processor c ran in a history
unfoldable pub lane_of : Scenario → List Entry → ℕ → List Bar
lane_of scenario h c = lane_from scenario c [] [] h

-- these are the lanes of all processors
pub record AreLanes (scenario : Scenario) (h : List Entry) (lanes : List (List Bar)) : Type 0 where
  pub count : length lanes ≡ scenario.shape.cpus
  pub each : (c : ℕ) → c < scenario.shape.cpus → slice_index_or lanes c [] ≡ lane_of scenario h c

-- the lanes go on with an entry, where this state stood before
pub record AreLongerLanes (s : SchedulerState) (e : Entry) (before after : List (List Bar)) : Type 0 where
  pub count : length after ≡ length before
  pub each : (c : ℕ) → c < length before → slice_index_or after c [] ≡ lane_with_entry s c (slice_index_or before c []) e
