use Rattle.std.proofs.Common.{◌≡◌, ◌++◌}
use Rattle.std.specs.List.{flat_map, range_with_len}
use Rattle.aps_core.specs.Run.{state_of_run}
use Rattle.view_value_changes.specs.Moment.{cpu_values}
use Rattle.view_value_changes.proofs.moments.add_processors.Given as goal

abbrev pub invariant-loop-c : goal.invariant-loop-c
invariant-loop-c l = l.values.items ≡ l.initial.values.items ++ flat_map (cpu_values (state_of_run l.core)) (range_with_len 0 l.c)
