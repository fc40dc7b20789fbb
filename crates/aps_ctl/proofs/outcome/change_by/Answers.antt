use Rattle.std.proofs.Common.{◌≡◌, ◌∙◌, sym, ap, None, arith}
use Rattle.std.proofs.lemmas.Grind.{common_steps}
use Rattle.aps_ctl.specs.Outcome.{change_by}
use Rattle.aps_ctl.proofs.Changes.{change_follows}
use Rattle.aps_ctl.proofs.outcome.change_by.Goals as goal

pub returns-in-Modified-clause-law : goal.returns-in-Modified-clause-law
returns-in-Modified-clause-law c rows shape view e1 e2 =
    c.row_change.ensures
    ∙ ap (λ answer. change_by c.args.call.now answer c.args.tree.now.rows) (sym c.in-Modified.is)
    ∙ change_follows c.args.call.now c.args.answer.now c.args.tree.now.rows rows shape view e1 e2

other : (c : goal.In_default) → None ≡ change_by c.args.call.now c.args.answer.now c.args.tree.now.rows
other c = grind (arith, common_steps)

pub returns-in_default : goal.returns-in_default
returns-in_default c = record {
  same = other c;
  law = λ rows shape view e1 e2. other c ∙ change_follows c.args.call.now c.args.answer.now c.args.tree.now.rows rows shape view e1 e2;
}
