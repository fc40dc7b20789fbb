use Rattle.std.proofs.Common.{◌∙◌, ap, refl}
use Rattle.aps_model.specs.declared.shape.Shape.{Shape}
use Rattle.aps_model.specs.Scenario.{Scenario}
use Rattle.view_replay.specs.Retraced.{start_of}
use Rattle.view_value_changes.proofs.Begun.{at_begin}
use Rattle.view_value_changes.proofs.retracing.Retraced.begin.Goals as goal

pub returns-clause-at : goal.returns-clause-at
returns-clause-at c =
    let h = c.args.history.now in
    let window = ap (λ (x : Shape). x.window) (c.shape.ensures.same ∙ ap (λ (x : Scenario). x.shape) c.scenario.ensures) in
    at_begin c.in_ok-core.core (start_of h c.args.order) c.in_ok-usages.usages c.shape.result.now.window c.in_ok-core.ensures.same c.in_ok-core.ensures.valid refl c.in_ok-usages.ensures window
