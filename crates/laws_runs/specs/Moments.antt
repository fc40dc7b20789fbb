-- How moments, dues, ends and flags lie in a history.
use Rattle.std.specs.Prelude.{◌≡◌, ◌≢◌, ℕ, ◌+◌, ◌<◌, ◌≤◌, List, length, Some, None}
use Rattle.std.specs.List.{fold}
use Rattle.aps_model.specs.declared.entry.Entry.{Entry}
use Rattle.laws_runs.specs.Sizes.{IsSameSizes}
use Rattle.laws_runs.specs.Waits.{IsPlain}
use Rattle.laws_runs.specs.Untouched.{AgreesOnRunning}
use Rattle.aps_model.specs.Due.{due, last_to, next_boundary, left_running}
use Rattle.aps_model.specs.Scenario.{Scenario}
use Rattle.aps_model.specs.SchedulerState.{SchedulerState, cpu_at}
use Rattle.aps_model.specs.Shape.{horizon}

-- where the last entry ended
abbrev pub moment : List Entry → ℕ
moment h = fold (λ _ (e : Entry). e.to) 0 h

-- no due lies in the past and no end in the future, a flag stands only now, and each processor is due by its next boundary
pub record IsTimely (s : SchedulerState) (h : List Entry) : Type 0 where
  pub ahead : (d : ℕ) → d < s.shape.cpus → moment h ≤ due s h d
  pub behind : (d z : ℕ) → last_to h d ≡ Some z → z ≤ moment h
  pub flag_now : (d f : ℕ) → (cpu_at s d).flag ≡ Some f → f ≡ moment h
  pub flag_stepped : (d f : ℕ) → (cpu_at s d).flag ≡ Some f → last_to h d ≡ None → ⊥
  pub flag_early : (d f : ℕ) → (cpu_at s d).flag ≡ Some f → f ≢ horizon s.shape
  pub within : (d z : ℕ) → last_to h d ≡ Some z → z ≤ horizon s.shape
  pub moment_within : moment h ≤ horizon s.shape
  pub exact : (d z n : ℕ) → last_to h d ≡ Some z → left_running s (cpu_at s d).running ≡ Some n → z ≢ horizon s.shape → due s h d ≤ z + n
  pub soon : (d z : ℕ) → last_to h d ≡ Some z → due s h d ≤ next_boundary s.shape.tick z

-- what the laws of steps stand on
pub record IsGrounded (scenario : Scenario) (s : SchedulerState) : Type 0 where
  pub plain : IsPlain scenario s
  pub kept : AgreesOnRunning s
  pub sizes : IsSameSizes scenario.shape s.shape
  pub cpu_count : length s.cpus ≡ s.shape.cpus
