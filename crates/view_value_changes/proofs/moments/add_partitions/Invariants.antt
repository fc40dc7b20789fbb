use Rattle.std.proofs.Common.{◌≡◌, ◌++◌}
use Rattle.std.specs.List.{flat_map, range_with_len}
use Rattle.view_value_changes.specs.Moment.{values_of_partition}
use Rattle.view_value_changes.proofs.moments.add_partitions.Given as goal

abbrev pub invariant-loop-p : goal.invariant-loop-p
invariant-loop-p l = l.values.items ≡ l.initial.values.items ++ flat_map (values_of_partition l.core l.told) (range_with_len 0 l.p)
