use Rattle.std.proofs.Common.{◌≡◌, ◌<◌, ◌∙◌, ap, subst, sym}
use Rattle.aps_model.specs.Due.{due}
use Rattle.aps_model.specs.SchedulerState.{SchedulerState}
use Rattle.aps_core.specs.CoreView.{run_of_core}
use Rattle.aps_core.specs.Run.{Run, state_of_run}
use Rattle.aps_core.proofs.Kept.{cpu_exists}
use Rattle.aps_core.proofs.simulator.Core.due.Goals as goal

pub returns : goal.returns
returns c =
    let exists =
    cpu_exists (run_of_core c.self.inside) c.self.inside.history c.self.inside.scheduler.machine c.args.cpu c.self.invariant.core
    (subst (λ (run : Run). c.args.cpu < run.setup.scenario.shape.cpus) (sym c.self.view_is) c.requires) in
    subst (λ (run : Run). c.of.result ≡ due (state_of_run run) run.entries c.args.cpu) c.self.view_is
    (c.of.ensures ∙ c.self.invariant.after.nexts c.args.cpu exists ∙ ap (λ (s : SchedulerState). due s c.self.inside.history.entries c.args.cpu) c.self.invariant.core.machine)
