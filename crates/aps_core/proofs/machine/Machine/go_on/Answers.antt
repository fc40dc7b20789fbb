use Rattle.std.proofs.Common.{◌+◌, ◌∙◌, ap, length, sym}
use Rattle.aps_model.specs.declared.state.State.TheVariants.{Ready}
use Rattle.aps_model.specs.Operation.{go_on, state_in}
use Rattle.aps_model.specs.SchedulerState.{SchedulerState, thread_at}
use Rattle.aps_tasks.specs.Table.{Table, entering, task_in}
use Rattle.aps_core.specs.MachineView.{state_of_machine}
use Rattle.aps_core.proofs.Tasking.{gone_on, ready_count, tasked_machine}
use Rattle.aps_core.proofs.machine.Machine.go_on.Goals as goal

pub returns : goal.returns
returns c =
    let m = c.self.inside in
    gone_on c.args.scenario.now (state_of_machine m) m.tasks c.go_on.new.self m.inherit.own c.args.x (c.task-place.result.place + 1) c.args.now c.op_at-op.result
    (ap (λ t. t.place + 1) c.task-place.ensures ∙ ap (λ (s : SchedulerState). (thread_at s c.args.x).place + 1) (sym c.self.view_is))
    c.op_at-op.ensures.same c.go_on.ensures
    ∙ ap (λ (s : SchedulerState). go_on c.args.scenario.now s c.args.x c.args.now) c.self.view_is

pub invariant_of-self : goal.invariant_of-self
invariant_of-self c =
    let m = c.self.inside in
    tasked_machine (state_of_machine m) m.tasks c.go_on.new.self _ m.inherit _ _ _ c.self.invariant
    (ap (λ (t : Table). length t.tasks) c.go_on.ensures
    ∙ ready_count m.tasks c.args.x (entering m.shape (c.task-place.result.place + 1) c.op_at-op.result c.args.now Ready (task_in m.tasks c.args.x)) (state_in c.op_at-op.result c.args.now Ready))
