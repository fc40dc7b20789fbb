use Rattle.std.proofs.Common.{arith, ◌≡◌, sym, subst}
use Rattle.std.proofs.lemmas.Grind.{common_steps}
use Rattle.aps_model.specs.Tree.{rows_cancelled}
use Rattle.aps_tree.specs.Tree.{IsBudgetTree}
use Rattle.aps_tree.proofs.Kept.{cancelled}
use Rattle.aps_tree.proofs.tree.Tree.cancel.Goals as goal

rows : (c : goal.After-clear_critical) → c.clear_critical.new.rows ≡ rows_cancelled c.args.self.now.rows c.args.p
rows c = grind (arith, common_steps)

kept : (c : goal.After-clear_critical) → IsBudgetTree (record { parts = c.self.inside.parts; rows = c.clear_critical.new.rows })
kept c =
    let was : IsBudgetTree c.args.self.now = subst IsBudgetTree c.self.view_is c.self.invariant in
    subst IsBudgetTree (sym (λ j. record { parts = (c.self.view_is j).parts; rows = rows c j }))
    (cancelled c.args.self.now was c.args.p)

pub invariant_of-self : goal.invariant_of-self
invariant_of-self c = kept c

pub returns-clause-keeps : goal.returns-clause-keeps
returns-clause-keeps c = kept c
