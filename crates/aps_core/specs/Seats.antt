-- The ready threads of a state, each in the place of its number.
use Rattle.std.specs.Prelude.{◌≡◌, ◌⊎◌, ℕ, List, length, map, slice_index_or, if◌then◌else◌, Option, Some, None}
use Rattle.std.specs.List.{range_with_len}
use Rattle.aps_model.specs.declared.merit.Contender.{Contender}
use Rattle.aps_model.specs.Pick.{contender_of, is_ready}
use Rattle.aps_model.specs.SchedulerState.{SchedulerState, thread_at}

-- the thread as a contender, if it is ready
abbrev pub seat_at : SchedulerState → ℕ → Option Contender
seat_at s x = if is_ready (thread_at s x).state then Some (contender_of s x) else None

-- the same of each thread
abbrev pub seats_of : SchedulerState → List (Option Contender)
seats_of s = map (seat_at s) (range_with_len 0 (length s.threads))

-- who is in there
abbrev pub who_at : List (Option Contender) → ℕ → Option Contender
who_at seats x = slice_index_or seats x None

-- there is who should be
abbrev pub IsRight : SchedulerState → List (Option Contender) → ℕ → Type 0
IsRight s seats x = who_at seats x ≡ seat_at s x

-- nobody is in there, or who should be
abbrev pub IsSeated : SchedulerState → List (Option Contender) → ℕ → Type 0
IsSeated s seats x = (who_at seats x ≡ None) ⊎ IsRight s seats x
