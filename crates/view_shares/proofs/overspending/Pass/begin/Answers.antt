use Rattle.std.proofs.Common.{◌∙◌, ap, refl}
use Rattle.aps_model.specs.declared.shape.Shape.{Shape}
use Rattle.aps_model.specs.History.{History}
use Rattle.aps_model.specs.Scenario.{Scenario}
use Rattle.view_shares.proofs.Overspent.{at_begin}
use Rattle.view_shares.proofs.overspending.Pass.begin.Goals as goal

pub returns-clause-at : goal.returns-clause-at
returns-clause-at c =
    let window = ap (λ (x : Shape). x.window) (c.shape.ensures.same ∙ ap (λ (x : Scenario). x.shape) (c.scenario.ensures ∙ ap (λ (h : History). h.scenario) c.history.ensures.same)) in
    at_begin c.args.core c.args.core c.in_ok-time.time c.shape.result.now.window refl c.history.ensures.valid c.requires.begins c.in_ok-time.ensures window
