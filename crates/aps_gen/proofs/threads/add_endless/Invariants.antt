use Rattle.std.proofs.Common.{◌≡◌, ◌-◌, ◌++◌}
use Rattle.aps_gen.specs.Generated.{endless_from, after_endless}
use Rattle.aps_gen.proofs.threads.add_endless.Given as goal

abbrev pub invariant-loop-j : goal.invariant-loop-j
invariant-loop-j l = record {
  added : l.threads.items ++ endless_from l.i l.j (l.cpus - l.j) l.draws.state ≡ l.fn.threads.items ++ endless_from l.i 0 l.cpus l.fn.draws.state;
  drawn : after_endless (l.cpus - l.j) l.draws.state ≡ after_endless l.cpus l.fn.draws.state;
}
