use Rattle.std.proofs.Common.{◌∙◌, ap, length}
use Rattle.aps_model.specs.Step.{give_back}
use Rattle.aps_model.specs.SchedulerState.{SchedulerState, thread_at}
use Rattle.aps_tasks.specs.Table.{Table, task_in}
use Rattle.aps_core.specs.MachineView.{state_of_machine}
use Rattle.aps_core.proofs.Tasking.{given, given_count, tasked_machine}
use Rattle.aps_core.proofs.machine.Machine.give_back.Goals as goal

pub returns : goal.returns
returns c =
    let m = c.self.inside in
    given c.args.scenario.now (state_of_machine m) m.tasks c.give_back.new.self m.inherit.own c.args.x c.policy_of-policy.result c.policy_of-policy.ensures c.give_back.ensures
    ∙ ap (λ (s : SchedulerState). give_back c.args.scenario.now s c.args.x (thread_at s c.args.x).state) c.self.view_is

pub invariant_of-self : goal.invariant_of-self
invariant_of-self c =
    let m = c.self.inside in
    tasked_machine (state_of_machine m) m.tasks c.give_back.new.self _ m.inherit _ _ _ c.self.invariant
    (ap (λ (t : Table). length t.tasks) c.give_back.ensures ∙ given_count m.tasks c.args.x m.shape c.policy_of-policy.result (task_in m.tasks c.args.x).state)
