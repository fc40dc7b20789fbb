use Rattle.std.proofs.Common.{◌∙◌, ap, subst, sym}
use Rattle.aps_core.specs.Run.{Run}
use Rattle.aps_core.specs.Core.{IsUnderWay}
use Rattle.aps_core.proofs.Kept.{free_turn, same_number}
use Rattle.aps_core.proofs.simulator.Core.has_turn.Goals as goal

pub returns-in-Free-clause-yes : goal.returns-in-Free-clause-yes
returns-in-Free-clause-yes c = λ equal.
    free_turn c.args.self.now c.args.cpu c.args.first (subst IsUnderWay c.self.view_is c.self.invariant.core.keeps)
    (ap (λ (run : Run). run.setup.order) (sym c.self.view_is) ∙ c.in-Free.is) c.requires.cpu c.requires.lowest
    (sym c.due.ensures ∙ same_number c.due.result c.due-in-Free.result equal ∙ c.due-in-Free.ensures)
