use Rattle.std.proofs.Common.{IfOk, List, subst}
use Rattle.aps_model.specs.declared.entry.Entry.{Entry}
use Rattle.aps_model.specs.Scenario.{Scenario}
use Rattle.view_marks.specs.Drawn.{IsDrawnHistory}
use Rattle.view_marks.proofs.drawn.drawn_of.Goals as goal

pub returns : goal.returns
returns c =
    subst (λ (s : Scenario). IfOk c.drawn_by.result (IsDrawnHistory s c.args.history.now.entries)) c.scenario.ensures
    (subst (λ (es : List Entry). IfOk c.drawn_by.result (IsDrawnHistory c.scenario.result.now es)) c.entries.ensures.same c.drawn_by.ensures)
