use Rattle.view_latency.specs.Callers.{AreCallersBelow}
use Rattle.view_latency.proofs.callers.all_callers.Given as goal

abbrev pub invariant-loop-x : goal.invariant-loop-x
invariant-loop-x l = AreCallersBelow l.scenario l.x l.callers.items
