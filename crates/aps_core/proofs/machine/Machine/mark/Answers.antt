use Rattle.std.proofs.Common.{◌∙◌, ap}
use Rattle.aps_model.specs.declared.state.Facts.{Facts}
use Rattle.aps_model.specs.SchedulerState.{SchedulerState, thread_at, with_own}
use Rattle.aps_core.specs.MachineView.{state_of_machine}
use Rattle.aps_core.proofs.Tasking.{one_each, told, told_machine}
use Rattle.aps_core.proofs.machine.Machine.mark.Goals as goal

pub returns : goal.returns
returns c =
    let m = c.self.inside in
    told (state_of_machine m) m.tasks m.inherit c.mark.new.self c.args.x (λ (own : Facts). record own { critical = c.args.critical }) (one_each (state_of_machine m) m.tasks m.inherit.own _ m.inherit _ _ _ c.self.invariant) c.mark.ensures
    ∙ ap (λ (s : SchedulerState). with_own s c.args.x (record (thread_at s c.args.x).own { critical = c.args.critical })) c.self.view_is

pub invariant_of-self : goal.invariant_of-self
invariant_of-self c =
    let m = c.self.inside in
    told_machine (state_of_machine m) m.tasks _ m.inherit c.mark.new.self c.args.x _ _ _ _ c.self.invariant c.mark.ensures
