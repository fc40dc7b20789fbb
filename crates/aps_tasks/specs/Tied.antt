-- The threads of a scheduler state beside the tasks that go through the same programs.
use Rattle.std.specs.Prelude.{◌≡◌, map}
use Rattle.aps_model.specs.Scenario.{Scenario}
use Rattle.aps_model.specs.SchedulerState.{SchedulerState}
use Rattle.aps_tasks.specs.Start.{plan_of, task_of}
use Rattle.aps_tasks.specs.Tasks.{Tasks}

-- the tasks are those of the state's threads, whose own values they leave out, and the plans are the scenario's
pub record AreTasksTied (scenario : Scenario) (s : SchedulerState) (t : Tasks) : Type 0 where
  pub plans : t.plans ≡ map plan_of scenario.threads
  pub tick : t.shape.tick ≡ s.shape.tick
  pub call : t.shape.call_ns ≡ s.shape.call_ns
  pub tasks : t.tasks ≡ map task_of s.threads
  pub stamps : t.stamps ≡ s.stamps
