use Rattle.std.proofs.Common.{◌≡◌, ◌++◌, string_bytes}
use Rattle.std.specs.List.{flat_map, range_with_len}
use Rattle.view_value_changes.specs.Changes.{change_at}
use Rattle.view_value_changes.proofs.changes.add_changes.Given as goal

abbrev pub invariant-loop-signal : goal.invariant-loop-signal
invariant-loop-signal l =
    string_bytes l.out ≡ string_bytes l.initial.out ++ flat_map (change_at l.threads l.rows l.before l.now) (range_with_len 0 l.signal)
