use Rattle.std.proofs.Common.{◌≡◌, take}
use Rattle.aps_core.proofs.recording.add_changes.Given as goal

abbrev pub invariant-loop-i : goal.invariant-loop-i
invariant-loop-i l = l.history ≡ record l.initial.history { changes = take l.i l.changes }
