use Rattle.aps_tree.specs.declared.tree.Tree.TheInside.{Inside}
use Rattle.aps_tree.specs.Tree.{Tree, IsBudgetTree}

-- the tree that the fields stand for
abbrev pub tree_of : Inside → Tree
tree_of tree = record { parts = tree.parts; rows = tree.rows }

abbrev pub KeepsTree : Inside → Type 0
KeepsTree tree = IsBudgetTree (tree_of tree)
