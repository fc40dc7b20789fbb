use Rattle.std.proofs.Common.{◌/◌, ◌∙◌, ap}
use Rattle.aps_model.specs.Budget.{all_parts}
use Rattle.aps_model.specs.SchedulerState.{SchedulerState}
use Rattle.laws_runs.specs.Moments.{moment}
use Rattle.aps_core.specs.Run.{Run, state_of_run}
use Rattle.aps_core.proofs.Counting.{parts_are}
use Rattle.aps_core.proofs.simulator.Core.stand.Goals as goal

pub returns : goal.returns
returns c =
    let s = c.self.inside.scheduler.machine in
    let h = c.self.inside.history.entries in
    c.stand.ensures.same
    ∙ parts_are s.shape s.rows h (moment h / s.shape.tick) c.self.inside.scheduler.window c.self.invariant.after.counts c.stand.ensures.few
    ∙ ap (λ (m : SchedulerState). all_parts m.shape m.rows h (moment h / m.shape.tick)) c.self.invariant.core.machine
    ∙ ap (λ (r : Run). all_parts (state_of_run r).shape (state_of_run r).rows r.entries (moment r.entries / (state_of_run r).shape.tick)) c.self.view_is
