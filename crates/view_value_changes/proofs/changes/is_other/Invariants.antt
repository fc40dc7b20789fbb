use Rattle.std.proofs.Common.{◌≡◌, false}
use Rattle.std.specs.List.{list_any, range_with_len}
use Rattle.view_value_changes.specs.Changes.{changes}
use Rattle.view_value_changes.proofs.changes.is_other.Given as goal

abbrev pub invariant-loop-signal : goal.invariant-loop-signal
invariant-loop-signal l = list_any (changes l.before l.now) (range_with_len 0 l.signal) ≡ false
