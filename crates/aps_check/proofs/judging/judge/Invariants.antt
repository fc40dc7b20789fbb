use Rattle.std.proofs.Common.{◌≡◌}
use Rattle.aps_check.proofs.Breaches.{behind}
use Rattle.aps_check.proofs.judging.judge.Given as goal

abbrev pub invariant-loop-entry : goal.invariant-loop-entry
invariant-loop-entry l = l.core ≡ behind l.fn.core l.entries l.entry-index
