use Rattle.aps_tasks.specs.declared.tasks.Tasks.TheInside.{Inside}
use Rattle.aps_tasks.specs.Tasks.{Tasks}
use Rattle.aps_tasks.specs.Kept.{IsTasks}

-- the threads that the fields stand for
abbrev pub tasks_of : Inside → Tasks
tasks_of t = record { shape = t.shape; plans = t.plans.items; tasks = t.table.tasks; stamps = t.table.stamps }

abbrev pub KeepsTasks : Inside → Type 0
KeepsTasks t = IsTasks (tasks_of t)
