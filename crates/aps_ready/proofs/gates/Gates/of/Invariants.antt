use Rattle.aps_ready.specs.Gates.{AreGatesOf}
use Rattle.aps_ready.proofs.GateLaws.{told}
use Rattle.aps_ready.proofs.gates.Gates.of.Given as goal

abbrev pub invariant-loop-p : goal.invariant-loop-p
invariant-loop-p l = AreGatesOf (told l.parts l.p) l.gates
