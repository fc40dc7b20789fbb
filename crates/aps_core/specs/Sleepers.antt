-- The sleeping threads of a state, each in the place of its number.
use Rattle.std.specs.Prelude.{◌≡◌, ℕ, List, map, slice_index_or, Option, None}
use Rattle.aps_model.specs.SchedulerState.{SchedulerState, thread_at}
use Rattle.aps_timer.specs.Waking.{asleep_of, sleeps_until}

-- the moment until which the thread sleeps, if it does
abbrev pub until_at : SchedulerState → ℕ → Option ℕ
until_at s x = sleeps_until (thread_at s x).state

-- the same of each thread
abbrev pub sleepers_of : SchedulerState → List (Option ℕ)
sleepers_of s = asleep_of s.threads

-- the thread has the moment that it should have
abbrev pub IsTimed : SchedulerState → List (Option ℕ) → ℕ → Type 0
IsTimed s timer x = slice_index_or timer x None ≡ until_at s x

-- the numbers of sleepers that are pairs of moment and number
abbrev pub numbers_of : List (ℕ × ℕ) → List ℕ
numbers_of sleepers = map (λ (sleeper : ℕ × ℕ). sleeper.1) sleepers
