use Rattle.std.proofs.Common.{◌≡◌, replicate}
use Rattle.aps_model.specs.SchedulerState.{idle}
use Rattle.aps_core.proofs.machine.start.start_cpus.Given as goal

abbrev pub invariant-loop : goal.invariant-loop
invariant-loop l = l.cpus.items ≡ replicate l.counter idle
