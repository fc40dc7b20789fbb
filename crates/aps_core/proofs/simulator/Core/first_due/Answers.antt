use Rattle.std.proofs.Common.{◌<◌, ◌∙◌, ap, subst, sym}
use Rattle.aps_model.specs.declared.entry.Order.TheVariants.{Fixed}
use Rattle.aps_model.specs.Due.{HasTurn, first_due}
use Rattle.aps_core.specs.Core.{IsUnderWay}
use Rattle.aps_core.specs.CoreView.{run_of_core}
use Rattle.aps_core.specs.NextDues.{AreDues}
use Rattle.aps_core.specs.Run.{Run, state_of_run}
use Rattle.aps_core.proofs.Kept.{cpu_within, first_lowest}
use Rattle.aps_core.proofs.simulator.Core.first_due.Goals as goal

pub returns-clause-lowest : goal.returns-clause-lowest
returns-clause-lowest c =
    subst (λ (run : Run). HasTurn Fixed (state_of_run run) run.entries c.first_due.result) c.self.view_is
    (first_lowest (run_of_core c.self.inside) c.self.inside.history c.self.inside.scheduler.machine Fixed c.first_due.result c.self.invariant.core
    (c.first_due.ensures.same ∙ ap (λ h. first_due c.self.inside.scheduler.machine h c.self.inside.scheduler.machine.shape.cpus) c.entries.ensures.same))

pub returns-clause-exists : goal.returns-clause-exists
returns-clause-exists c =
    subst (λ (run : Run). c.first_due.result < run.setup.scenario.shape.cpus) c.self.view_is
    (cpu_within (run_of_core c.self.inside) c.self.inside.history c.self.inside.scheduler.machine c.first_due.result c.self.invariant.core c.first_due.ensures.within)

pub returns-clause-keeps : goal.returns-clause-keeps
returns-clause-keeps c = subst IsUnderWay c.self.view_is c.self.invariant.core.keeps

pub first_due-requires : goal.first_due-requires
first_due-requires c = record { dues = subst (λ h. AreDues c.self.inside.scheduler.machine h c.self.inside.scheduler.dues) (sym c.entries.ensures.same) c.self.invariant.after.nexts }
