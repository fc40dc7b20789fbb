use Rattle.std.specs.Prelude.{ℕ, ◌+◌, ◌-◌, List, slice_set}
use Rattle.aps_model.specs.declared.partition.PartitionRow.{PartitionRow}
use Rattle.aps_model.specs.Partition.{row_or_none}

abbrev pub parent_of : List PartitionRow → ℕ → PartitionRow
parent_of rows p = row_or_none rows (row_or_none rows p).parent

-- the rows in which row p is this one, and its parent gives or takes the difference of the budgets
abbrev pub rows_with_child : List PartitionRow → ℕ → PartitionRow → List PartitionRow
rows_with_child rows p row =
    slice_set
    (slice_set rows (row_or_none rows p).parent
    (record (parent_of rows p) { budget = (parent_of rows p).budget + (row_or_none rows p).budget - row.budget }))
    p row
