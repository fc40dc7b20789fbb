-- Each call leaves a tree.
use Rattle.std.proofs.Common.{◌≡◌, ℕ, List, Option, None}
use Rattle.aps_model.specs.Name.{IsName}
use Rattle.aps_model.specs.Tree.{create_refusal, modify_refusal, rows_cancelled, rows_created, rows_modified}
use Rattle.laws_runs.proofs.RowTree.{cancelled_tree, created_tree, modified_tree}
use Rattle.aps_tree.specs.Tree.{Tree, IsBudgetTree}

module _ (tree : Tree) (kept : IsBudgetTree tree) where
  pub created : (name : List ℕ) (parent budget critical max : ℕ) → IsName name → create_refusal tree.parts tree.rows name parent budget critical max ≡ None
      → IsBudgetTree (record tree { rows = rows_created tree.rows name parent budget critical max })
  created name parent budget critical max named none =
      let rows = created_tree tree.parts tree.rows name parent budget critical max named none kept.named kept.funded in
      record { parts = kept.parts; named = rows.0; funded = rows.1 }

  pub modified : (p : ℕ) (budget critical max : Option ℕ) → modify_refusal tree.parts tree.rows p budget critical max ≡ None
      → IsBudgetTree (record tree { rows = rows_modified tree.rows p budget critical max })
  modified p budget critical max none =
      let rows = modified_tree tree.parts tree.rows p budget critical max none kept.named kept.funded in
      record { parts = kept.parts; named = rows.0; funded = rows.1 }

  pub cancelled : (p : ℕ) → IsBudgetTree (record tree { rows = rows_cancelled tree.rows p })
  cancelled p =
      let rows = cancelled_tree tree.parts tree.rows p kept.named kept.funded in
      record { parts = kept.parts; named = rows.0; funded = rows.1 }
