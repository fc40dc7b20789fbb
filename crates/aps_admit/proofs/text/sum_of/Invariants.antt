use Rattle.std.proofs.Common.{◌≡◌, ◌≤◌, ◌*◌, take}
use Rattle.aps_admit.specs.Text.{budgets_granted}
use Rattle.aps_admit.proofs.text.sum_of.Given as goal

abbrev pub invariant-loop-granted : goal.invariant-loop-granted
invariant-loop-granted l = record {
  so_far : l.sum ≡ budgets_granted (take l.granted-index l.grants);
  small : l.sum ≤ 65535 * l.granted-index;
}
