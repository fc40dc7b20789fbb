-- The partitions as an array of tables.
use Rattle.std.specs.Prelude.{List, drop}
use Rattle.toml.specs.Data.{Data, string, table, no_members}
use Rattle.aps_model.specs.declared.partition.PartitionRow.{PartitionRow}
use Rattle.aps_model.specs.Partition.{row_or_none}
use Rattle.aps_scenario.specs.declared.key.Key.TheVariants.{Name, Parent, Budget, Critical, Max}
use Rattle.aps_scenario.specs.PrintedTable.{put, number_data, array_of_each}
use Rattle.aps_scenario.specs.PrintedTree.{listed_rows}

-- a row as a table, where these are the rows
abbrev pub partition_table : List PartitionRow → PartitionRow → Data
partition_table rows row =
    table
    (put Max (number_data row.max)
    (put Critical (number_data row.critical)
    (put Budget (number_data row.budget)
    (put Parent (string (row_or_none rows row.parent).name)
    (put Name (string row.name) no_members)))))

-- all rows but the root
abbrev pub partition_array : List PartitionRow → Data
partition_array rows = array_of_each (partition_table rows) (drop 1 (listed_rows rows))
