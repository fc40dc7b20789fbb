use Rattle.std.proofs.Common.{ap, length, arith}
use Rattle.aps_model.specs.SchedulerState.{SchedulerState}
use Rattle.aps_core.proofs.StandsStay.{none_anew}
use Rattle.aps_core.proofs.machine.Machine.stand_by.Goals as goal

pub returns-in_default-clause-same : goal.returns-in_default-clause-same
returns-in_default-clause-same c =
    none_anew c.args.billed.now c.args.self.now.shape c.args.self.now.rows c.args.window.now c.args.standing.now (c.requires c.if-is_any.false) c.in_default.is

pub returns-in_default-clause-few : goal.returns-in_default-clause-few
returns-in_default-clause-few c =
    let few = c.rows-rows.ensures.keeps.named.few in
    omega (arith, few, ap (λ (m : SchedulerState). length m.rows) c.self.view_is)
