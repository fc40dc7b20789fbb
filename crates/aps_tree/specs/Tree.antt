use lib.Chars.{codes}
use Rattle.std.specs.Prelude.{◌≡◌, ℕ, ◌⊎◌, List, Option, Some, None, Result, Ok, Err}
use Rattle.aps_model.specs.declared.partition.PartitionRow.{PartitionRow}
use Rattle.aps_model.specs.declared.partition.TreeRefusal.{TreeRefusal}
use Rattle.aps_model.specs.Limits.{percent, thousandths}
use Rattle.aps_model.specs.Partition.{AreRows}
use Rattle.laws_runs.specs.Rows.{IsNamedTree}

-- a partition tree, as plain data
pub record Tree : Type 0 where
  pub parts : ℕ
  pub rows : List PartitionRow

-- what each tree keeps: its rows are a tree by parents with distinct names, budgets sum to the parts, each is at most
-- its maximum, and each maximum at most the parts
pub record IsBudgetTree (tree : Tree) : Type 0 where
  pub parts : (tree.parts ≡ percent) ⊎ (tree.parts ≡ thousandths)
  pub named : IsNamedTree tree.rows
  pub funded : AreRows tree.parts tree.rows

-- the row of the root, to which all parts are left
abbrev pub root_row : ℕ → PartitionRow
root_row parts = record { name = codes "System"; parent = 0; budget = parts; critical = 0; max = parts }

-- the answer of a call: the cause where it is refused, else this
abbrev pub unless_refused : {A : Type 0} → Option TreeRefusal → A → Result A TreeRefusal
unless_refused None answer = Ok answer
unless_refused (Some why) answer = Err why

-- the rows after a call: unchanged where it is refused
abbrev pub rows_unless_refused : Option TreeRefusal → List PartitionRow → List PartitionRow → List PartitionRow
rows_unless_refused None rows after = after
rows_unless_refused (Some why) rows after = rows
