use Rattle.std.proofs.Common.{◌≡◌, replicate, None}
use Rattle.aps_live.proofs.machine.start.start_cpus.Given as goal

abbrev pub invariant-loop : goal.invariant-loop
invariant-loop l = l.cpus.items ≡ replicate l.counter None
