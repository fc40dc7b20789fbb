use Rattle.std.specs.Prelude.{◌≡◌, ◌≢◌, ℕ, ◌+◌, ◌-◌, ◌<◌, ◌≤◌, ◌++◌, List, [], ◌∷◌, length, Some}
use Rattle.aps_model.specs.declared.entry.Entry.{Entry}
use Rattle.aps_model.specs.declared.state.Pick.{Pick}
use Rattle.aps_model.specs.declared.state.State.TheVariants.{Running}
use Rattle.aps_model.specs.Due.{due, last_end, next_boundary}
use Rattle.aps_model.specs.Limits.{last_moment, longest_tick, most_commands, most_time_of_tick}
use Rattle.aps_model.specs.Scenario.{Scenario}
use Rattle.aps_model.specs.SchedulerState.{SchedulerState, cpu_at, thread_at}
use Rattle.aps_model.specs.Shape.{horizon}
use Rattle.aps_model.specs.Usage.{used}
use Rattle.laws_runs.specs.Between.{after_bill, after_tick, before_pick, bill_in}
use Rattle.laws_runs.specs.Moments.{moment}
use Rattle.laws_runs.specs.Servers.{IsNobodysClient}
use Rattle.laws_runs.specs.Stamps.{IsStamped}
use Rattle.aps_core.specs.Room.{CanFinish, HasRoomToWake, changes_of_a_run, last_place, stamps_before}

-- what a step of processor c rests on: the processor exists, its moments fit, so does what its parts make greater,
-- its thread can end its operation, is nobody's client and runs on no other one, and stamps differ
pub record IsReady (scenario : Scenario) (s : SchedulerState) (h : List Entry) (c : ℕ) : Type 0 where
  pub exists : c < length s.cpus
  pub forward : last_end h c ≤ due s h c
  pub short : due s h c - last_end h c ≤ longest_tick
  pub within : due s h c ≤ horizon s.shape
  pub early : due s h c ≤ last_moment
  pub wakes : HasRoomToWake last_place stamps_before s
  pub since : (x : ℕ) → (thread_at (after_tick scenario s h c) x).since ≤ last_moment
  pub room : (p : Pick) → (cpu_at s c).running ≡ Some p → CanFinish scenario (after_bill scenario s h c) p.thread
  pub replies : length (after_tick scenario s h c).replies ≤ most_commands
  pub changes_ticked : length (after_tick scenario s h c).changes ≤ changes_of_a_run
  pub changes_billed : length (after_bill scenario s h c).changes ≤ changes_of_a_run
  pub within_ticked : due s h c ≤ horizon (after_tick scenario s h c).shape
  pub within_settled : due s h c ≤ horizon (before_pick scenario s h c).shape
  pub free_billed : (p : Pick) → (cpu_at s c).running ≡ Some p → IsNobodysClient (after_bill scenario s h c).triples p.thread
  pub count_billed : length (after_bill scenario s h c).threads ≡ length s.threads
  pub count_settled : length (before_pick scenario s h c).threads ≡ length s.threads
  pub stamped_billed : IsStamped (after_bill scenario s h c).threads (after_bill scenario s h c).stamps
  pub stamped_settled : IsStamped (before_pick scenario s h c).threads (before_pick scenario s h c).stamps
  pub exists_settled : c < length (before_pick scenario s h c).cpus
  pub same_tick : (after_tick scenario s h c).shape.tick ≡ s.shape.tick
  pub rises : moment h ≤ due s h c
  pub in_tick : due s h c ≤ next_boundary s.shape.tick (last_end h c)
  pub bills_fit : (p k : ℕ) → used s.shape.tick (h ++ bill_in s h c ∷ []) p k (k + 1) ≤ most_time_of_tick
  pub others : (d : ℕ) → d ≢ c → due (before_pick scenario s h c) h d ≡ due s h d
  pub same_cpu : (d : ℕ) → d ≢ c → cpu_at (before_pick scenario s h c) d ≡ cpu_at s d
  pub runs : (d : ℕ) (p : Pick) → (cpu_at s d).running ≡ Some p → (thread_at s p.thread).state ≡ Running d
  pub runs_billed : (p : Pick) → (cpu_at s c).running ≡ Some p → (thread_at (after_bill scenario s h c) p.thread).state ≡ Running c
  pub counted : length (before_pick scenario s h c).cpus ≡ length s.cpus
