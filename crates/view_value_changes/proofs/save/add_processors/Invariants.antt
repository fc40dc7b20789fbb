use Rattle.std.proofs.Common.{◌≡◌, ◌++◌, string_bytes}
use Rattle.std.specs.List.{flat_map, range_with_len}
use Rattle.view_value_changes.specs.Save.{cpu_group}
use Rattle.view_value_changes.proofs.save.add_processors.Given as goal

abbrev pub invariant-loop-c : goal.invariant-loop-c
invariant-loop-c l = string_bytes l.out ≡ string_bytes l.initial.out ++ flat_map cpu_group (range_with_len 0 l.c)
