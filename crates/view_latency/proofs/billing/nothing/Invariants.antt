use Rattle.std.proofs.Common.{◌≡◌, replicate}
use Rattle.view_latency.specs.Bills.{no_bills}
use Rattle.view_latency.proofs.billing.nothing.Given as goal

abbrev pub invariant-loop : goal.invariant-loop
invariant-loop l = l.bills.items ≡ replicate l.counter no_bills
