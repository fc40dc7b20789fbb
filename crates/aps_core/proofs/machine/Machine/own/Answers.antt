use Rattle.std.proofs.Common.{◌∙◌, ap}
use Rattle.aps_model.specs.SchedulerState.{SchedulerState, thread_at}
use Rattle.aps_core.specs.MachineView.{state_of_machine}
use Rattle.aps_core.proofs.Tasking.{one_each}
use Rattle.aps_core.proofs.Threads.{own_read}
use Rattle.aps_core.proofs.machine.Machine.own.Goals as goal

pub returns : goal.returns
returns c =
    let m = c.self.inside in
    c.own.ensures ∙ own_read m.tasks.tasks m.inherit.own c.args.x (one_each (state_of_machine m) m.tasks m.inherit.own _ m.inherit _ _ _ c.self.invariant)
    ∙ ap (λ (s : SchedulerState). (thread_at s c.args.x).own) c.self.view_is
