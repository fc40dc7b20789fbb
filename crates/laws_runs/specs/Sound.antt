use Rattle.std.specs.Prelude.{◌≡◌, ◌≢◌, ◌+◌, ℕ, ◌<◌, ◌≤◌, List, Some, None}
use Rattle.aps_model.specs.declared.entry.Entry.{Entry}
use Rattle.laws_runs.specs.Moments.{IsTimely, IsGrounded, moment}
use Rattle.aps_model.specs.Due.{due, last_end, last_to, next_boundary, left_running}
use Rattle.aps_model.specs.Scenario.{Scenario}
use Rattle.aps_model.specs.SchedulerState.{SchedulerState, cpu_at}
use Rattle.aps_model.specs.Shape.{horizon}

-- what each legal history keeps
pub record IsSound (scenario : Scenario) (s : SchedulerState) (h : List Entry) : Type 0 where
  pub grounded : IsGrounded scenario s
  pub timely : IsTimely s h

-- how the next entry lies after a history
pub record IsNext (s : SchedulerState) (h : List Entry) (e : Entry) : Type 0 where
  pub rises : moment h ≤ e.to
  pub first : (d : ℕ) → d < s.shape.cpus → e.to ≤ due s h d
  pub after_ends : (d z : ℕ) → last_to h d ≡ Some z → z ≤ e.to
  pub served : (d f : ℕ) → (cpu_at s d).flag ≡ Some f → e.to ≡ f
  pub forward : e.from ≤ e.to
  pub short : e.to ≤ next_boundary s.shape.tick e.from
  pub within : e.to ≤ horizon s.shape
  pub exact : (n : ℕ) → last_to h e.cpu ≢ None → left_running s (cpu_at s e.cpu).running ≡ Some n → e.to ≤ e.from + n
  pub joins : e.from ≡ last_end h e.cpu
  pub opens : last_to h e.cpu ≡ None → e.to ≡ 0
  pub not_over : (z : ℕ) → last_to h e.cpu ≡ Some z → z < horizon s.shape
