use Rattle.std.proofs.Common.{◌≡◌, ◌++◌, string_bytes, take}
use Rattle.std.specs.List.{flat_map, enumerate_from}
use Rattle.view_value_changes.specs.Changes.{signal_value}
use Rattle.view_value_changes.proofs.changes.add_values.Given as goal

abbrev pub invariant-loop-signal : goal.invariant-loop-signal
invariant-loop-signal l =
    string_bytes l.out ≡ string_bytes l.initial.out ++ flat_map (signal_value l.threads l.rows) (take l.signal (enumerate_from 0 l.values))
