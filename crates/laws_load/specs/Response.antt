-- How soon a thread of class 1 runs.
use Rattle.std.specs.Prelude.{◌≡◌, ℕ, ◌<◌, ◌≤◌, List, length, Bool, not, ◌&&◌, nat_eq, nat_le, Some, IsTrue}
use Rattle.std.specs.List.{range_with_len, sum_by}
use Rattle.aps_model.specs.declared.entry.Entry.{Entry}
use Rattle.aps_model.specs.declared.state.Pick.{Pick}
use Rattle.aps_model.specs.declared.state.State.TheVariants.{Ready, Running}
use Rattle.aps_model.specs.Inherit.{facts_of}
use Rattle.aps_model.specs.Budget.{part_at}
use Rattle.aps_model.specs.Merit.{IsCandidate}
use Rattle.aps_model.specs.SchedulerState.{SchedulerState, cpu_at}
use Rattle.laws_runs.specs.Moments.{moment}
use Rattle.laws_runs.specs.Starving.{is_active}
use Rattle.laws_runs.specs.Waits.{one_if, state_at}
use Rattle.laws_load.specs.Passing.{parts_now}
use Rattle.laws_load.specs.Work.{class_at}

-- the class that a thread has now, by the usage in the window at the last moment
abbrev pub class_now : SchedulerState → List Entry → ℕ → ℕ
class_now s h x = class_at s h (moment h) x

-- a thread that is ready and of class 1 may run now: the limit never shuts it
abbrev pub ClassOneMayRun : SchedulerState → List Entry → Type 0
ClassOneMayRun s h =
    (x : ℕ) → class_now s h x ≡ 1
    → IsCandidate (facts_of s x) (part_at (parts_now s h) (facts_of s x).partition)

-- the processor runs a thread of class 1 with at least the priority of x, as both inherit it
pub record RunsAsGood (s : SchedulerState) (h : List Entry) (x c : ℕ) : Type 0 where
  pub pick : Pick
  pub runs : (cpu_at s c).running ≡ Some pick
  pub class : class_now s h pick.thread ≡ 1
  pub priority : (facts_of s x).priority ≤ (facts_of s pick.thread).priority

-- another thread is ready or runs, and has class 1 and at least the priority of x
abbrev pub outranks : SchedulerState → List Entry → ℕ → ℕ → Bool
outranks s h x y =
    is_active (state_at s y) && not (nat_eq y x) && nat_eq (class_now s h y) 1
    && nat_le (facts_of s x).priority (facts_of s y).priority

-- how many do
abbrev pub rivals : SchedulerState → List Entry → ℕ → ℕ
rivals s h x = sum_by (λ y. one_if (outranks s h x y)) (range_with_len 0 (length s.threads))

-- the thread runs on some processor
pub record IsRunning (s : SchedulerState) (x : ℕ) : Type 0 where
  pub cpu : ℕ
  pub exists : cpu < s.shape.cpus
  pub runs : state_at s x ≡ Running cpu

-- what a thread of class 1 may count on while time passes: if it is ready then each processor runs one as good, and where
-- fewer threads outrank it than there are processors it runs itself
pub record IsResponsive (s : SchedulerState) (h : List Entry) (x : ℕ) : Type 0 where
  pub ready : state_at s x ≡ Ready → (c : ℕ) → c < s.shape.cpus → RunsAsGood s h x c
  pub runs : IsTrue (is_active (state_at s x)) → rivals s h x < s.shape.cpus → IsRunning s x
