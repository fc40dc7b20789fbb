use Rattle.std.proofs.Common.{◌≡◌, replicate}
use Rattle.view_latency.specs.Calls.{no_calls}
use Rattle.view_latency.proofs.calling.uncalled.Given as goal

abbrev pub invariant-loop : goal.invariant-loop
invariant-loop l = l.calls.items ≡ replicate l.counter no_calls
