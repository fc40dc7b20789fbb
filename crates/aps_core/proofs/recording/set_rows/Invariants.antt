use Rattle.std.proofs.Common.{◌≡◌, ◌++◌, drop, take}
use Rattle.aps_core.proofs.recording.set_rows.Given as goal

abbrev pub invariant-loop-p : goal.invariant-loop-p
invariant-loop-p l = l.history ≡ record l.initial.history { rows = take l.p l.rows ++ drop l.p l.initial.history.rows }
