-- Threads that are kept in two lists: the task of each, and its own values.
use Rattle.std.specs.Prelude.{List, [], ◌∷◌}
use Rattle.aps_model.specs.declared.state.Facts.{Facts}
use Rattle.aps_model.specs.declared.state.ThreadNow.{ThreadNow}
use Rattle.aps_model.specs.SchedulerState.{no_facts}
use Rattle.aps_tasks.specs.declared.task.Task.{Task}

-- the thread of this task and these own values
abbrev pub thread_of : Task → Facts → ThreadNow
thread_of task own = record {
  own = own;
  state = task.state;
  place = task.place;
  left = task.left;
  stamp = task.stamp;
  since = task.since;
}

-- the threads, as many as there are tasks
abbrev pub threads_of : List Task → List Facts → List ThreadNow
threads_of [] own = []
threads_of (task ∷ tasks) [] = thread_of task no_facts ∷ threads_of tasks []
threads_of (task ∷ tasks) (facts ∷ own) = thread_of task facts ∷ threads_of tasks own
