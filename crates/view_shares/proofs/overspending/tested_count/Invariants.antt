use Rattle.std.proofs.Common.{◌≡◌, ◌<◌, ◌≤◌, ℕ, None}
use Rattle.view_samples.specs.Pass.{entry_at}
use Rattle.view_shares.specs.CriticalBudget.{tested_by}
use Rattle.view_shares.proofs.overspending.tested_count.Given as goal

abbrev pub invariant-loop-i : goal.invariant-loop-i
invariant-loop-i l = record {
  within : l.count ≤ l.i;
  none : (k : ℕ) → l.count ≤ k → k < l.i → tested_by (entry_at l.entries k) ≡ None;
}
