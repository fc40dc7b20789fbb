-- What the parts of a step read of the tree.
use Rattle.std.proofs.Common.{◌≡◌, ◌⊎◌, ℕ, ◌≤◌, List, All, arith, inl, inr, ap, ◌∙◌, Option, slice_get, unwrap_or}
use Rattle.std.proofs.lemmas.List.Elements.{All-weaker}
use Rattle.std.proofs.lemmas.Option.{unwrap_or-slice_get}
use Rattle.aps_model.specs.declared.partition.PartitionRow.{PartitionRow}
use Rattle.aps_model.specs.Limits.{percent, thousandths}
use Rattle.aps_model.specs.Partition.{IsFundedRow, IsRow, no_row, row_or_none}
use Rattle.aps_tree.specs.Tree.{IsBudgetTree, Tree}

few_parts : (parts : ℕ) → (parts ≡ percent) ⊎ (parts ≡ thousandths) → parts ≤ thousandths
few_parts parts (inl e) = omega (arith, e)
few_parts parts (inr e) = omega (arith, e)

-- the rows of a tree have their ranges
pub row_ranges : (tree : Tree) → IsBudgetTree tree → All IsRow tree.rows
row_ranges tree m =
    let few = few_parts tree.parts m.parts in
    All-weaker (IsFundedRow tree.parts) IsRow
    (λ row f. let b = f.budget in let c = f.critical in let x = f.max in record { budget = omega (arith, b, x, few); critical = omega (arith, c); max = omega (arith, x, few) })
    tree.rows m.funded.each

-- what a look-up of a row reads
pub row_read : (rows : List PartitionRow) (p : ℕ) (o : Option PartitionRow) → o ≡ slice_get rows p → unwrap_or o no_row ≡ row_or_none rows p
row_read rows p o is = ap (λ (r : Option PartitionRow). unwrap_or r no_row) is ∙ unwrap_or-slice_get rows p no_row
