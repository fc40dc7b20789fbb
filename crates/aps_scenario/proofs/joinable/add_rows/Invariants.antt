use Rattle.std.proofs.Common.{◌≡◌, ◌++◌, take, map}
use Rattle.aps_model.specs.declared.partition.PartitionRow.{PartitionRow}
use Rattle.aps_scenario.proofs.joinable.add_rows.Given as goal

abbrev pub invariant-loop-row : goal.invariant-loop-row
invariant-loop-row l = l.names.items ≡ l.initial.names.items ++ map (λ (row : PartitionRow). row.name) (take l.row-index l.rows)
