use Rattle.std.proofs.Common.{arith, ◌≡◌, None, sym, subst}
use Rattle.std.proofs.lemmas.Grind.{common_steps}
use Rattle.aps_model.specs.Tree.{modify_refusal, rows_modified}
use Rattle.aps_tree.specs.Tree.{IsBudgetTree}
use Rattle.aps_tree.proofs.Kept.{modified}
use Rattle.aps_tree.proofs.tree.Tree.modify.Goals as goal

rows : (c : goal.After-set_child) → c.set_child.new.rows ≡ rows_modified c.args.self.now.rows c.args.p c.args.budget c.args.critical c.args.max
rows c = grind (arith, common_steps)

none : (c : goal.After-set_child) → modify_refusal c.args.self.now.parts c.args.self.now.rows c.args.p c.args.budget c.args.critical c.args.max ≡ None
none c = grind (arith, common_steps)

kept : (c : goal.After-set_child) → IsBudgetTree (record { parts = c.self.inside.parts; rows = c.set_child.new.rows })
kept c =
    let was : IsBudgetTree c.args.self.now = subst IsBudgetTree c.self.view_is c.self.invariant in
    subst IsBudgetTree (sym (λ j. record { parts = (c.self.view_is j).parts; rows = rows c j }))
    (modified c.args.self.now was c.args.p c.args.budget c.args.critical c.args.max (none c))

pub invariant_of-self : goal.invariant_of-self
invariant_of-self c = kept c

pub returns-clause-keeps : goal.returns-clause-keeps
returns-clause-keeps c = kept c
