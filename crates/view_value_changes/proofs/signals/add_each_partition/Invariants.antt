use Rattle.std.proofs.Common.{◌≡◌, ◌++◌, string_bytes, take}
use Rattle.std.specs.List.{flat_map, enumerate_from}
use Rattle.view_value_changes.specs.Signals.{row_scope}
use Rattle.view_value_changes.proofs.signals.add_each_partition.Given as goal

abbrev pub invariant-loop-p : goal.invariant-loop-p
invariant-loop-p l = string_bytes l.out ≡ string_bytes l.initial.out ++ flat_map (row_scope l.first) (take l.p (enumerate_from 0 l.rows))
