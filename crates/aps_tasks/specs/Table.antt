-- Tasks apart from their programs, and what a call makes of one of them by what it is told of its program.
use Rattle.std.specs.Prelude.{ℕ, ◌+◌, List, slice_index_or, slice_set, if◌then◌else◌}
use Rattle.aps_model.specs.declared.program.Op.{Op}
use Rattle.aps_model.specs.declared.scenario.Policy.{Policy}
use Rattle.aps_model.specs.declared.shape.Shape.{Shape}
use Rattle.aps_model.specs.declared.state.State.{State}
use Rattle.aps_model.specs.declared.state.State.TheVariants.{Ready, Running}
use Rattle.aps_model.specs.Operation.{duration, is_slice_over, state_in}
use Rattle.aps_tasks.specs.declared.task.Task.{Task}
use Rattle.aps_tasks.specs.Calls.{left_after}
use Rattle.aps_tasks.specs.Tasks.{no_task}

-- the task of each thread, and the next stamp
pub record Table : Type 0 where
  pub tasks : List Task
  pub stamps : ℕ

abbrev pub task_in : Table → ℕ → Task
task_in t x = slice_index_or t.tasks x no_task

-- the thread's task is this one
abbrev pub put_task : Table → ℕ → Task → Table
put_task t x task = record t { tasks = slice_set t.tasks x task }

-- the thread's task is this one, with the next stamp
abbrev pub put_stamped : Table → ℕ → Task → Table
put_stamped t x task = record t {
  tasks = slice_set t.tasks x (record task { stamp = t.stamps; since = 0 });
  stamps = t.stamps + 1;
}

-- the same where it is ready; else it keeps its stamp
abbrev pub put_ready : Table → ℕ → Task → State → Table
put_ready t x task Ready = put_stamped t x task
put_ready t x task state = put_task t x task

abbrev pub put_state : Table → ℕ → State → Table
put_state t x state = put_task t x (record (task_in t x) { state = state })

-- the task of one that enters the operation at this place of its program; where that is no sleep, it is in the state that
-- is named
abbrev pub entering : Shape → ℕ → Op → ℕ → State → Task → Task
entering shape place op now otherwise task = record task {
  place = place;
  left = duration shape op;
  state = state_in op now otherwise;
}

-- it enters the operation, and stays in its state where that is no sleep
abbrev pub put_entered : Table → ℕ → Shape → ℕ → Op → ℕ → Table
put_entered t x shape place op now = put_task t x (entering shape place op now (task_in t x).state (task_in t x))

-- it waited, and goes on with the operation
abbrev pub put_on : Table → ℕ → Shape → ℕ → Op → ℕ → Table
put_on t x shape place op now = put_ready t x (entering shape place op now Ready (task_in t x)) (state_in op now Ready)

-- it is ready, with the next stamp
abbrev pub put_back : Table → ℕ → Table
put_back t x = put_stamped t x (record (task_in t x) { state = Ready })

-- a thread that runs is ready again, with the next stamp if its slice is over
abbrev pub put_given : Table → ℕ → Shape → Policy → State → Table
put_given t x shape policy (Running c) =
    if is_slice_over shape policy (task_in t x).since then put_back t x else put_state t x Ready
put_given t x shape policy state = t

-- it has run for so many ns
abbrev pub put_spent : Table → ℕ → ℕ → Table
put_spent t x ns = put_task t x (record (task_in t x) {
  left = left_after (task_in t x).left ns;
  since = (task_in t x).since + ns;
})
