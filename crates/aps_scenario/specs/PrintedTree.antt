-- The partitions as a text lists them: each with the budget that it has before its children take theirs.
use Rattle.std.specs.Prelude.{ℕ, zero, suc, ◌+◌, ◌-◌, List, [], ◌∷◌, ◌++◌, length, take, slice_set}
use Rattle.aps_model.specs.declared.partition.PartitionRow.{PartitionRow}
use Rattle.aps_model.specs.Partition.{row_or_none}

-- the rows in which the parent of row k has its budget back
abbrev pub budget_given_back : List PartitionRow → ℕ → List PartitionRow
budget_given_back rows k =
    let child = row_or_none rows k in
    let parent = row_or_none rows child.parent in
    slice_set rows child.parent (record parent { budget = parent.budget + child.budget })

-- the rows before row k, the last one, took its budget
abbrev pub rows_before : List PartitionRow → ℕ → List PartitionRow
rows_before rows k = take k (budget_given_back rows k)

-- so many rows and the root, each with the budget that it has once it is read
abbrev pub rows_listed : ℕ → List PartitionRow → List PartitionRow
rows_listed zero rows = rows
rows_listed (suc n) rows = rows_listed n (rows_before rows (suc n)) ++ row_or_none rows (suc n) ∷ []

-- the rows as a text lists them, the root first
abbrev pub listed_rows : List PartitionRow → List PartitionRow
listed_rows rows = rows_listed (length rows - 1) rows
