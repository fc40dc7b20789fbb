use Rattle.std.proofs.Common.{◌∙◌, ap}
use Rattle.aps_model.specs.Operation.{with_stamped}
use Rattle.aps_model.specs.SchedulerState.{SchedulerState, thread_at}
use Rattle.aps_core.proofs.Tasking.{stamped_again}
use Rattle.aps_core.proofs.machine.Machine.set_priority.Goals as goal

pub returns : goal.returns
returns c =
    c.stamp_anew.ensures
    ∙ ap (λ (u : SchedulerState). with_stamped u c.args.x (thread_at u c.args.x)) c.set_own_priority.ensures
    ∙ stamped_again c.args.self.now c.args.x (record (thread_at c.args.self.now c.args.x).own { priority = c.args.priority })
