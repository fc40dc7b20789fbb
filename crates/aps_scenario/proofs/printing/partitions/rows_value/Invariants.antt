use Rattle.std.proofs.Common.{◌≡◌, map, take}
use Rattle.toml.specs.View.{items_of, items_view}
use Rattle.aps_scenario.specs.PrintedPartitions.{partition_table}
use Rattle.aps_scenario.proofs.printing.partitions.rows_value.Given as goal

abbrev pub invariant-loop-row : goal.invariant-loop-row
invariant-loop-row l = items_view l.values.items ≡ items_of (map (partition_table l.rows) (take l.row-index l.listed))
