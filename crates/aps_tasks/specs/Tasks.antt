-- The threads of a run as they go through their programs.
use Rattle.std.specs.Prelude.{ℕ, ◌+◌, List, [], slice_index_or, slice_set, None}
use Rattle.aps_model.specs.declared.shape.Shape.{Shape}
use Rattle.aps_model.specs.declared.program.Op.{Op}
use Rattle.aps_model.specs.declared.program.Op.TheVariants.{Exit}
use Rattle.aps_model.specs.declared.scenario.Policy.TheVariants.{Fifo}
use Rattle.aps_model.specs.declared.state.State.{State}
use Rattle.aps_model.specs.declared.state.State.TheVariants.{Gone}
use Rattle.aps_tasks.specs.declared.plan.Plan.{Plan}
use Rattle.aps_tasks.specs.declared.task.Task.{Task}

-- the shape at the start, the plan and the task of each thread, and the next stamp
pub record Tasks : Type 0 where
  pub shape : Shape
  pub plans : List Plan
  pub tasks : List Task
  pub stamps : ℕ

-- what is read where there is no such thread
abbrev pub no_task : Task
no_task = record { state = Gone; place = 0; left = None; stamp = 0; since = 0 }

abbrev pub no_plan : Plan
no_plan = record { policy = Fifo; program = [] }

abbrev pub task_at : Tasks → ℕ → Task
task_at t x = slice_index_or t.tasks x no_task

abbrev pub plan_at : Tasks → ℕ → Plan
plan_at t x = slice_index_or t.plans x no_plan

-- the operation at a place of the thread's program
abbrev pub planned_op : Tasks → ℕ → ℕ → Op
planned_op t x place = slice_index_or (plan_at t x).program place Exit

-- the thread's operation
abbrev pub op_of : Tasks → ℕ → Op
op_of t x = planned_op t x (task_at t x).place

-- the thread's task is this one
abbrev pub with_task : Tasks → ℕ → Task → Tasks
with_task t x task = record t { tasks = slice_set t.tasks x task }

-- the thread's task is this one, with the next stamp
abbrev pub tasks_with_stamped : Tasks → ℕ → Task → Tasks
tasks_with_stamped t x task = record t {
  tasks = slice_set t.tasks x (record task { stamp = t.stamps; since = 0 });
  stamps = t.stamps + 1;
}

abbrev pub tasks_with_state : Tasks → ℕ → State → Tasks
tasks_with_state t x state = with_task t x (record (task_at t x) { state = state })
