use Rattle.std.proofs.Common.{◌≡◌, ◌-◌, ◌∷◌, ◌++◌}
use Rattle.aps_gen.specs.Generated.{server, generated_threads}
use Rattle.aps_gen.proofs.threads.thread_rows.Given as goal

abbrev pub invariant-loop-i : goal.invariant-loop-i
invariant-loop-i l =
    l.threads.items ++ generated_threads l.cpus l.i (l.partitions - l.i) l.draws.state ≡ server ∷ generated_threads l.cpus 0 l.partitions l.seed
