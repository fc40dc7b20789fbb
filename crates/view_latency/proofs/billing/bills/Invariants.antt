use Rattle.std.proofs.Common.{ℕ, ◌*◌, ◌<◌, take, get_or}
use Rattle.aps_model.specs.Limits.{longest_tick, most_threads}
use Rattle.aps_model.specs.Sums.{IsAtMost}
use Rattle.view_latency.specs.Bills.{AreBills, no_bills}
use Rattle.view_latency.proofs.billing.bills.Given as goal

abbrev pub invariant-loop-e : goal.invariant-loop-e
invariant-loop-e l = record {
  sums : AreBills (take l.e-index l.entries) l.bills.items;
  small : (x : ℕ) → x < most_threads → IsAtMost (l.e-index * longest_tick) (get_or l.bills.items x no_bills);
}
