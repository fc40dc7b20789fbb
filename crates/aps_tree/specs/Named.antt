use Rattle.std.specs.Prelude.{◌≡◌, ℕ, ◌+◌, ◌≤◌, List, length, map}
use Rattle.aps_model.specs.Limits.{most_partitions}
use Rattle.aps_model.specs.declared.partition.PartitionRow.{PartitionRow}

-- the names of the rows, in order
abbrev pub names_of : List PartitionRow → List (List ℕ)
names_of rows = map (λ (row : PartitionRow). row.name) rows

-- each row stands under its name, and there is room for 32 rows in all
pub record AreByName (names : List (List ℕ)) (rows : List PartitionRow) (spare : ℕ) : Type 0 where
  pub named : names ≡ names_of rows
  pub room : most_partitions ≤ length names + spare
