-- The sleepers of a timer beside the threads of the scheduler state.
use Rattle.std.specs.Prelude.{ℕ, List, map, Option, Some, None}
use Rattle.aps_model.specs.declared.state.State.{State}
use Rattle.aps_model.specs.declared.state.State.TheVariants.{Sleeping}
use Rattle.aps_model.specs.declared.state.ThreadNow.{ThreadNow}

-- the moment until which a thread in this state sleeps
abbrev pub sleeps_until : State → Option ℕ
sleeps_until (Sleeping until) = Some until
sleeps_until state = None

-- the row of the threads
abbrev pub asleep_of : List ThreadNow → List (Option ℕ)
asleep_of threads = map (λ (thread : ThreadNow). sleeps_until thread.state) threads
