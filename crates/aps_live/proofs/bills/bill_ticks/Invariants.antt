use Rattle.std.proofs.Common.{◌≡◌, ◌≤◌}
use Rattle.aps_live.specs.BilledTo.{IsBilledTo}
use Rattle.aps_live.proofs.bills.bill_ticks.Given as goal

abbrev pub invariant-loop-k : goal.invariant-loop-k
invariant-loop-k l = record {
  billed : IsBilledTo l.tick l.window l._before l.e l.p l.k;
  tick : l.window.tick ≡ l.initial.window.tick;
  span : l.window.span ≡ l.initial.window.span;
}
