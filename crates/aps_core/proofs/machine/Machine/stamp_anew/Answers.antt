use Rattle.std.proofs.Common.{◌∙◌, ap, length, refl, length-set}
use Rattle.aps_model.specs.Operation.{with_stamped}
use Rattle.aps_model.specs.SchedulerState.{SchedulerState, thread_at}
use Rattle.aps_tasks.specs.Table.{Table, task_in}
use Rattle.aps_core.specs.MachineView.{state_of_machine}
use Rattle.aps_core.proofs.Tasking.{stamped, tasked_machine}
use Rattle.aps_core.proofs.machine.Machine.stamp_anew.Goals as goal

pub returns : goal.returns
returns c =
    let m = c.self.inside in
    stamped (state_of_machine m) m.tasks c.restamp.new.self m.inherit.own c.args.x (λ a. a) (λ b. b) (λ a o. refl) c.restamp.ensures
    ∙ ap (λ (s : SchedulerState). with_stamped s c.args.x (thread_at s c.args.x)) c.self.view_is

pub invariant_of-self : goal.invariant_of-self
invariant_of-self c =
    let m = c.self.inside in
    tasked_machine (state_of_machine m) m.tasks c.restamp.new.self _ m.inherit _ _ _ c.self.invariant
    (ap (λ (t : Table). length t.tasks) c.restamp.ensures ∙ length-set m.tasks.tasks c.args.x (record (task_in m.tasks c.args.x) { stamp = m.tasks.stamps; since = 0 }))
