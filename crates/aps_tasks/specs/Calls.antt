-- What each call makes of the threads.
use Rattle.std.specs.Prelude.{ℕ, zero, ◌+◌, ◌-◌, Bool, true, false, if◌then◌else◌, Option, Some, None}
use Rattle.std.specs.Option.{option_map}
use Rattle.aps_model.specs.declared.program.Op.{Op}
use Rattle.aps_model.specs.declared.program.Op.TheVariants.{Sleep}
use Rattle.aps_model.specs.declared.state.State.{State}
use Rattle.aps_model.specs.declared.state.State.TheVariants.{Ready, Running}
use Rattle.aps_model.specs.Operation.{duration, is_slice_over, place_after, state_in}
use Rattle.aps_tasks.specs.declared.task.Task.{Task}
use Rattle.aps_tasks.specs.Tasks.{Tasks, planned_op, op_of, plan_at, task_at, tasks_with_stamped, tasks_with_state, with_task}

-- the thread enters the operation at a place of its program
abbrev pub entered : Tasks → ℕ → ℕ → ℕ → Task
entered t x place now = record (task_at t x) {
  place = place;
  left = duration t.shape (planned_op t x place);
  state = state_in (planned_op t x place) now (task_at t x).state;
}

-- it enters its next operation
abbrev pub operation_advanced : Tasks → ℕ → ℕ → Tasks
operation_advanced t x now = with_task t x (entered t x (place_after (op_of t x) (task_at t x).place) now)

-- until when a thread sleeps that enters the operation now, if that is a sleep
abbrev pub sleep_end : Op → ℕ → Option ℕ
sleep_end (Sleep ns) now = Some (now + ns)
sleep_end op now = None

-- it is ready, with the next stamp
abbrev pub made_ready : Tasks → ℕ → Tasks
made_ready t x = tasks_with_stamped t x (record (task_at t x) { state = Ready })

-- it has the next stamp
abbrev pub restamped : Tasks → ℕ → Tasks
restamped t x = tasks_with_stamped t x (task_at t x)

-- a thread that runs is ready again, with the next stamp if its slice is over
abbrev pub given_back : Tasks → ℕ → State → Tasks
given_back t x (Running c) =
    if is_slice_over t.shape (plan_at t x).policy (task_at t x).since then made_ready t x else tasks_with_state t x Ready
given_back t x state = t

-- what is left of an operation after so many ns of it
abbrev pub left_after : Option ℕ → ℕ → Option ℕ
left_after left ns = option_map (λ most. most - ns) left

-- nothing is left of it
abbrev pub is_over : Option ℕ → Bool
is_over (Some zero) = true
is_over left = false

-- it has run for so many ns
abbrev pub time_passed : Tasks → ℕ → ℕ → Tasks
time_passed t x ns = with_task t x (record (task_at t x) {
  left = left_after (task_at t x).left ns;
  since = (task_at t x).since + ns;
})
