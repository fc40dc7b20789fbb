use Rattle.std.proofs.Common.{arith, ◌≡◌, None, sym, subst}
use Rattle.std.proofs.lemmas.Grind.{common_steps}
use Rattle.aps_model.specs.Name.{IsName}
use Rattle.aps_model.specs.Tree.{create_refusal, rows_created}
use Rattle.aps_tree.specs.Tree.{IsBudgetTree}
use Rattle.aps_tree.proofs.Kept.{created}
use Rattle.aps_tree.proofs.tree.Tree.create.Goals as goal

rows : (c : goal.After-add_child) → c.add_child.new.rows ≡ rows_created c.args.self.now.rows c.args.name c.args.parent c.args.budget c.args.critical c.args.max
rows c = grind (arith, common_steps)

none : (c : goal.After-add_child) → create_refusal c.args.self.now.parts c.args.self.now.rows c.args.name c.args.parent c.args.budget c.args.critical c.args.max ≡ None
none c = grind (arith, common_steps)

kept : (c : goal.After-add_child) → IsBudgetTree (record { parts = c.self.inside.parts; rows = c.add_child.new.rows })
kept c =
    let was : IsBudgetTree c.args.self.now = subst IsBudgetTree c.self.view_is c.self.invariant in
    let named : IsName c.args.name = subst IsName c.text-text.ensures.same c.text-text.ensures.name in
    subst IsBudgetTree (sym (λ j. record { parts = (c.self.view_is j).parts; rows = rows c j }))
    (created c.args.self.now was c.args.name c.args.parent c.args.budget c.args.critical c.args.max named (none c))

pub invariant_of-self : goal.invariant_of-self
invariant_of-self c = kept c

pub returns-clause-keeps : goal.returns-clause-keeps
returns-clause-keeps c = kept c
