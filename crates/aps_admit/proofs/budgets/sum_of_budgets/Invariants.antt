use Rattle.std.proofs.Common.{◌≡◌, ◌≤◌, ◌*◌, take}
use Rattle.std.specs.List.{sum_by}
use Rattle.aps_admit.specs.Admission.{budget_for}
use Rattle.aps_admit.proofs.budgets.sum_of_budgets.Given as goal

abbrev pub invariant-loop-demand : goal.invariant-loop-demand
invariant-loop-demand l = record {
  so_far : l.sum ≡ sum_by (budget_for l.shape l.slack) (take l.demand-index l.demands);
  small : l.sum ≤ 86200001 * l.demand-index;
}
