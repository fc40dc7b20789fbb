-- How large the numbers of a legal history get.
use Rattle.std.specs.Prelude.{◌≡◌, ℕ, ◌+◌, ◌-◌, ◌*◌, ◌<◌, ◌≤◌, List, All, Some}
use Rattle.std.specs.List.{range_with_len, sum_by}
use Rattle.aps_model.specs.declared.entry.Entry.{Entry}
use Rattle.aps_model.specs.declared.shape.Shape.{Shape}
use Rattle.laws_runs.specs.Moments.{moment}
use Rattle.aps_model.specs.Due.{due, last_end, next_boundary}
use Rattle.aps_model.specs.SchedulerState.{SchedulerState, cpu_at}
use Rattle.aps_model.specs.Shape.{whole}
use Rattle.aps_model.specs.Usage.{critical_used, overlap, used, window_critical, window_used}
use Rattle.aps_model.specs.Limits.{last_moment, longest_window, most_critical, most_time_of_run, most_time_of_tick}

-- an entry of one of the processors, within a tick, before the end of the longest run
pub record IsEntrySmall (shape : Shape) (e : Entry) : Type 0 where
  pub cpu : e.cpu < shape.cpus
  pub forward : e.from ≤ e.to
  pub short : e.to ≤ e.from + shape.tick
  pub small : e.to ≤ last_moment

-- no moment is later than the longest run, and no due later than that and a tick
pub record AreMomentsSmall (s : SchedulerState) (h : List Entry) : Type 0 where
  pub entries : All (IsEntrySmall s.shape) h
  pub last : moment h ≤ last_moment
  pub ends : (c : ℕ) → last_end h c ≤ last_moment
  pub boundaries : (c : ℕ) → next_boundary s.shape.tick (last_end h c) ≤ 10000010000000
  pub dues : (c : ℕ) → due s h c ≤ 10000010000000
  pub flags : (c f : ℕ) → (cpu_at s c).flag ≡ Some f → f ≤ last_moment

-- what all entries bill in ticks a to b-1, and what processors stood idle in them with it
abbrev pub time_within : ℕ → List Entry → ℕ → ℕ → ℕ
time_within tick h a b = sum_by (λ (e : Entry). overlap tick a b e.from e.to) h

-- in ticks a to b-1 there is no more time than that of all processors: so much for each partition, for its critical
-- time, and for all partitions together; in one tick, in the longest window, and in the longest run
pub record IsUsageSmall (shape : Shape) (h : List Entry) (a b : ℕ) : Type 0 where
  pub time : time_within shape.tick h a b ≤ shape.cpus * ((b - a) * shape.tick)
  pub one_tick : b ≤ a + 1 → time_within shape.tick h a b ≤ most_time_of_tick
  pub window : b ≤ a + longest_window → time_within shape.tick h a b ≤ most_critical
  pub run : time_within shape.tick h a b ≤ most_time_of_run
  pub each : (p : ℕ) → used shape.tick h p a b ≤ time_within shape.tick h a b
  pub critical : (p : ℕ) → critical_used shape.tick h p a b ≤ used shape.tick h p a b
  pub all : (n : ℕ) → sum_by (λ p. used shape.tick h p a b) (range_with_len 0 n) ≤ time_within shape.tick h a b

-- in each window of the state's own length a partition uses at most the whole, critical time included
abbrev pub FitsWindow : SchedulerState → List Entry → Type 0
FitsWindow s h =
    (j p : ℕ) → (window_used s.shape h j p ≤ whole s.shape) × (window_critical s.shape h j p ≤ window_used s.shape h j p)
