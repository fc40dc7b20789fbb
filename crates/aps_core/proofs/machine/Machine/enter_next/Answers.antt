use Rattle.std.proofs.Common.{◌∙◌, ap, length, sym, length-set}
use Rattle.aps_model.specs.Operation.{place_after}
use Rattle.aps_model.specs.Step.{enter_next}
use Rattle.aps_model.specs.SchedulerState.{SchedulerState, thread_at}
use Rattle.aps_tasks.specs.Table.{Table, entering, task_in}
use Rattle.aps_core.specs.MachineView.{state_of_machine}
use Rattle.aps_core.proofs.Tasking.{entered, tasked_machine}
use Rattle.aps_core.proofs.machine.Machine.enter_next.Goals as goal

pub returns : goal.returns
returns c =
    let m = c.self.inside in
    entered c.args.scenario.now (state_of_machine m) m.tasks c.enter.new.self m.inherit.own c.args.x c.place_after-place.result c.args.now _ c.args.op.now c.op_at-next.result
    (ap (λ (s : SchedulerState). (thread_at s c.args.x).state) c.self.view_is ∙ sym (ap (λ t. t.state) c.task-task.ensures) ∙ c.in-Running.is)
    (c.place_after-place.ensures ∙ ap (λ t. place_after c.args.op.now t.place) c.task-task.ensures ∙ ap (λ (s : SchedulerState). place_after c.args.op.now (thread_at s c.args.x).place) (sym c.self.view_is))
    c.op_at-next.ensures.same c.enter.ensures
    ∙ ap (λ (s : SchedulerState). enter_next c.args.scenario.now s c.args.x c.args.now c.args.op.now (thread_at s c.args.x).state) c.self.view_is

pub invariant_of-self : goal.invariant_of-self
invariant_of-self c =
    let m = c.self.inside in
    tasked_machine (state_of_machine m) m.tasks c.enter.new.self _ m.inherit _ _ _ c.self.invariant
    (ap (λ (t : Table). length t.tasks) c.enter.ensures
    ∙ length-set m.tasks.tasks c.args.x (entering m.shape c.place_after-place.result c.op_at-next.result c.args.now (task_in m.tasks c.args.x).state (task_in m.tasks c.args.x)))
