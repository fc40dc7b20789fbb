use Rattle.aps_core.specs.Lowest.{IsLeastOf}
use Rattle.aps_core.proofs.machine.Machine.least_among.Given as goal

abbrev pub invariant-loop-d : goal.invariant-loop-d
invariant-loop-d l = IsLeastOf l.self l.entries l.parts l.c l.now l.d l.least
