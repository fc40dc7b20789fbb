use Rattle.std.proofs.Common.{◌≤◌, ap, length, subst, sym}
use Rattle.aps_model.specs.Legal.{IsLegal}
use Rattle.aps_core.specs.Run.{Run}
use Rattle.view_top.specs.Due.{judging}
use Rattle.view_top.proofs.Retraced.{runs_fit}
use Rattle.view_top.proofs.viewing.viewed.Goals as goal

pub retrace_rest-requires-clause-done : goal.retrace_rest-requires-clause-done
retrace_rest-requires-clause-done c = ap (λ (r : Run). r.entries) c.in_ok-core.ensures

pub retrace_rest-requires-clause-legal : goal.retrace_rest-requires-clause-legal
retrace_rest-requires-clause-legal c = subst (λ (r : Run). IsLegal r.setup.scenario r.setup.order c.args.entries.now) (sym c.in_ok-core.ensures) c.requires.sound.legal

pub retrace_rest-requires-clause-few : goal.retrace_rest-requires-clause-few
retrace_rest-requires-clause-few c =
    subst (λ (r : Run). length c.args.entries.now ≤ r.setup.limit) (sym c.in_ok-core.ensures) (runs_fit (judging c.args.asked c.args.scenario) c.args.entries.now c.requires.sound)
