use Rattle.std.proofs.Common.{◌≡◌, ◌≤◌, length}
use Rattle.aps_scenario.specs.Operation.{number_after}
use Rattle.aps_scenario.proofs.operation.number_after.Given as goal

abbrev pub invariant-loop-rest : goal.invariant-loop-rest
invariant-loop-rest l = record {
  within : l.value ≤ l.most;
  same : number_after l.most l.value l.rest ≡ number_after l.most l.first l.digits;
}

abbrev pub decreases-loop-rest : goal.decreases-loop-rest
decreases-loop-rest l = length l.rest
