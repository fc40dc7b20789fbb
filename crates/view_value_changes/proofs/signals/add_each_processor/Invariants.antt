use Rattle.std.proofs.Common.{◌≡◌, ◌++◌, string_bytes}
use Rattle.std.specs.List.{flat_map, range_with_len}
use Rattle.view_value_changes.specs.Signals.{cpu_scope}
use Rattle.view_value_changes.proofs.signals.add_each_processor.Given as goal

abbrev pub invariant-loop-c : goal.invariant-loop-c
invariant-loop-c l = string_bytes l.out ≡ string_bytes l.initial.out ++ flat_map cpu_scope (range_with_len 0 l.c)
