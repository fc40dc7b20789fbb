-- How many threads, processors and channels there are, and what no command changes of the shape.
use Rattle.std.specs.Prelude.{◌≡◌, ℕ, length, Some}
use Rattle.aps_model.specs.declared.state.Pick.{Pick}
use Rattle.laws_runs.specs.Sizes.{IsSameSizes}
use Rattle.aps_model.specs.Scenario.{Scenario}
use Rattle.aps_model.specs.SchedulerState.{SchedulerState, cpu_at}

-- they are the scenario's
pub record IsCounted (scenario : Scenario) (s : SchedulerState) : Type 0 where
  pub threads : length s.threads ≡ length scenario.threads
  pub cpus : length s.cpus ≡ scenario.shape.cpus
  pub channels : length s.channels ≡ length scenario.channels
  pub sizes : IsSameSizes scenario.shape s.shape

-- two processors never run one thread
abbrev pub NoneShared : SchedulerState → Type 0
NoneShared s = (c d : ℕ) (p q : Pick) → (cpu_at s c).running ≡ Some p → (cpu_at s d).running ≡ Some q → p.thread ≡ q.thread → c ≡ d
