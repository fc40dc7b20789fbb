use Rattle.std.proofs.Common.{◌≡◌, length}
use Rattle.aps_live.proofs.live_core.start_parts.Given as goal

abbrev pub invariant-loop : goal.invariant-loop
invariant-loop l = length l.parts.items ≡ l.counter
