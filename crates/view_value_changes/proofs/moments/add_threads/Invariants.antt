use Rattle.std.proofs.Common.{◌≡◌, ◌++◌}
use Rattle.std.specs.List.{flat_map, range_with_len}
use Rattle.aps_core.specs.Run.{state_of_run}
use Rattle.view_value_changes.specs.Moment.{values_of_thread}
use Rattle.view_value_changes.proofs.moments.add_threads.Given as goal

abbrev pub invariant-loop-x : goal.invariant-loop-x
invariant-loop-x l = l.values.items ≡ l.initial.values.items ++ flat_map (values_of_thread (state_of_run l.core)) (range_with_len 0 l.x)
