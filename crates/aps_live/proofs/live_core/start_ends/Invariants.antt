use Rattle.std.proofs.Common.{◌≡◌, replicate}
use Rattle.aps_live.proofs.live_core.start_ends.Given as goal

abbrev pub invariant-loop : goal.invariant-loop
invariant-loop l = l.ends.items ≡ replicate l.counter 0
