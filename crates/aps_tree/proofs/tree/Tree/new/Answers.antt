use Rattle.std.proofs.Common.{◌≡◌, ◌∷◌, [], ◌++◌, sym, subst, ◌∙◌}
use Rattle.aps_tree.specs.Tree.{IsBudgetTree, root_row}
use Rattle.aps_tree.proofs.Distinct.{root_tree}
use Rattle.aps_tree.proofs.tree.Tree.new.Goals as goal

pub invariant_of-result : goal.invariant_of-result
invariant_of-result c =
    let parts = c.args.parts in
    let rows : c.push.new.self ≡ root_row parts ∷ [] =
    c.push.ensures ∙ (λ j. c.in_ok-rows.ensures j ++ record { name = c.system_name.ensures j; parent = c.at.ensures j; budget = parts; critical = 0; max = parts } ∷ []) in
    subst (λ rows. IsBudgetTree (record { parts = parts; rows = rows })) (sym rows) (root_tree parts c.requires)
