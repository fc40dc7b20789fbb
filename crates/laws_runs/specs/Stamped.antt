-- How far the stamps of a history go.
use Rattle.std.specs.Prelude.{ℕ, ◌+◌, ◌*◌, ◌<◌, ◌≤◌, List, length, slice_index_or}
use Rattle.aps_model.specs.declared.entry.Entry.{Entry}
use Rattle.laws_runs.specs.Stamps.{IsActive}
use Rattle.aps_model.specs.SchedulerState.{SchedulerState, no_thread}

-- a step gives each thread that wakes a stamp, and two more; so there are few, and those of ready and running
-- threads are below
pub record HasFewStamps (s : SchedulerState) (h : List Entry) : Type 0 where
  pub next : s.stamps ≤ length s.threads + (length s.threads + 2) * length h
  pub small : s.stamps ≤ 1024 + 1026 * length h
  pub active : (x : ℕ) → IsActive (slice_index_or s.threads x no_thread).state
      → (slice_index_or s.threads x no_thread).stamp < 1024 + 1026 * length h
