use Rattle.std.proofs.Common.{◌≡◌, map, take}
use Rattle.aps_admit.specs.Admission.{granted}
use Rattle.aps_admit.proofs.budgets.grants_of.Given as goal

abbrev pub invariant-loop-demand : goal.invariant-loop-demand
invariant-loop-demand l = l.grants.items ≡ map (granted l.shape l.slack) (take l.demand-index l.demands)
