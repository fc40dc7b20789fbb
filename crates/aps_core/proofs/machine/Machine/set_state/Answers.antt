use Rattle.std.proofs.Common.{◌∙◌, ap, length, refl, length-set}
use Rattle.aps_model.specs.SchedulerState.{SchedulerState, with_state}
use Rattle.aps_tasks.specs.Table.{Table, task_in}
use Rattle.aps_core.specs.MachineView.{state_of_machine}
use Rattle.aps_core.proofs.Tasking.{tasked_machine, written}
use Rattle.aps_core.proofs.machine.Machine.set_state.Goals as goal

pub returns : goal.returns
returns c =
    let m = c.self.inside in
    written (state_of_machine m) m.tasks c.set_state.new.self m.inherit.own c.args.x (λ a. record a { state = c.args.state }) (λ b. record b { state = c.args.state }) (λ a o. refl) c.set_state.ensures
    ∙ ap (λ (s : SchedulerState). with_state s c.args.x c.args.state) c.self.view_is

pub invariant_of-self : goal.invariant_of-self
invariant_of-self c =
    let m = c.self.inside in
    tasked_machine (state_of_machine m) m.tasks c.set_state.new.self _ m.inherit _ _ _ c.self.invariant
    (ap (λ (t : Table). length t.tasks) c.set_state.ensures ∙ length-set m.tasks.tasks c.args.x (record (task_in m.tasks c.args.x) { state = c.args.state }))
