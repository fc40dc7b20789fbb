use Rattle.std.proofs.Common.{◌≡◌, ◌++◌, string_bytes, take}
use Rattle.std.specs.List.{flat_map, enumerate_from}
use Rattle.aps_report.specs.Lines.{partition_with}
use Rattle.aps_report.proofs.overview.add_partitions.Given as goal

abbrev pub invariant-loop-id : goal.invariant-loop-id
invariant-loop-id l = string_bytes l.out ≡ string_bytes l.initial.out ++ flat_map (partition_with l.totals) (take l.id (enumerate_from 0 l.rows))
