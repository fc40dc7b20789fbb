use Rattle.std.proofs.Common.{◌≡◌, ◌++◌, string_bytes}
use Rattle.std.specs.List.{flat_map, range_with_len}
use Rattle.view_value_changes.specs.Save.{no_marker}
use Rattle.view_value_changes.proofs.save.add_no_markers.Given as goal

abbrev pub invariant-loop : goal.invariant-loop
invariant-loop l = string_bytes l.out ≡ string_bytes l.initial.out ++ flat_map no_marker (range_with_len 0 l.counter)
