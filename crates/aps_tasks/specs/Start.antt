-- The threads at the start of a scenario.
use Rattle.std.specs.Prelude.{map}
use Rattle.aps_model.specs.declared.scenario.ThreadRow.{ThreadRow}
use Rattle.aps_model.specs.declared.state.ThreadNow.{ThreadNow}
use Rattle.aps_model.specs.Opening.{opening}
use Rattle.aps_model.specs.Scenario.{Scenario}
use Rattle.aps_tasks.specs.declared.plan.Plan.{Plan}
use Rattle.aps_tasks.specs.declared.task.Task.{Task}
use Rattle.aps_tasks.specs.Table.{Table}
use Rattle.aps_tasks.specs.Tasks.{Tasks}

abbrev pub plan_of : ThreadRow → Plan
plan_of row = record { policy = row.policy; program = row.program }

-- a thread without its own values
abbrev pub task_of : ThreadNow → Task
task_of thread = record {
  state = thread.state;
  place = thread.place;
  left = thread.left;
  stamp = thread.stamp;
  since = thread.since;
}

-- as the scheduler state has them then
abbrev pub start_tasks : Scenario → Tasks
start_tasks scenario = record {
  shape = scenario.shape;
  plans = map plan_of scenario.threads;
  tasks = map task_of (opening scenario).threads;
  stamps = (opening scenario).stamps;
}

-- the same without the programs
abbrev pub start_table : Scenario → Table
start_table scenario = record {
  tasks = map task_of (opening scenario).threads;
  stamps = (opening scenario).stamps;
}
