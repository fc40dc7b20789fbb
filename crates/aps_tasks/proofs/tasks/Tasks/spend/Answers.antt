use Rattle.std.proofs.Common.{◌+◌, refl}
use Rattle.aps_tasks.specs.Calls.{left_after}
use Rattle.aps_tasks.specs.TasksView.{tasks_of}
use Rattle.aps_tasks.specs.Tasks.{task_at}
use Rattle.aps_tasks.proofs.Keeping.{kept_task, left_less}
use Rattle.aps_tasks.proofs.tasks.Tasks.spend.Goals as goal

pub invariant_of-self : goal.invariant_of-self
invariant_of-self c =
    let t = tasks_of c.self.inside in
    let x = c.args.x in
    kept_task t c.spend.new.self x (record (task_at t x) { left = left_after (task_at t x).left c.args.ns; since = (task_at t x).since + c.args.ns }) c.self.invariant c.spend.ensures refl
    (left_less t x c.args.ns c.self.invariant)
