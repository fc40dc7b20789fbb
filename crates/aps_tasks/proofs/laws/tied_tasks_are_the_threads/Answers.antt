use Rattle.aps_tasks.proofs.TiedLaws.{tied_op, tied_opening, tied_task}
use Rattle.aps_tasks.proofs.laws.tied_tasks_are_the_threads.Goals as goal

pub returns : goal.returns
returns c = record { opening = tied_opening; tasks = tied_task; ops = tied_op }
