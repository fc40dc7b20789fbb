use Rattle.std.proofs.Common.{refl}
use Rattle.aps_tasks.specs.TasksView.{tasks_of}
use Rattle.aps_tasks.specs.Tasks.{task_at}
use Rattle.aps_tasks.proofs.Keeping.{kept_task}
use Rattle.aps_tasks.proofs.tasks.Tasks.set_state.Goals as goal

pub invariant_of-self : goal.invariant_of-self
invariant_of-self c =
    let t = tasks_of c.self.inside in
    kept_task t c.set_state.new.self c.args.x (record (task_at t c.args.x) { state = c.args.state }) c.self.invariant c.set_state.ensures refl (c.self.invariant.left c.args.x)
