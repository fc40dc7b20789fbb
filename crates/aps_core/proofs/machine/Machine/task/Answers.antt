use Rattle.std.proofs.Common.{◌∙◌, ap}
use Rattle.aps_model.specs.SchedulerState.{SchedulerState, thread_at}
use Rattle.aps_tasks.specs.Start.{task_of}
use Rattle.aps_core.proofs.Threads.{task_read}
use Rattle.aps_core.proofs.machine.Machine.task.Goals as goal

pub returns : goal.returns
returns c =
    let m = c.self.inside in
    c.task.ensures ∙ task_read m.tasks.tasks m.inherit.own c.args.x ∙ ap (λ (s : SchedulerState). task_of (thread_at s c.args.x)) c.self.view_is
