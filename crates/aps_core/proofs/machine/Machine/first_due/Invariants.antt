use Rattle.std.proofs.Common.{◌≡◌, ◌<◌, length}
use Rattle.aps_model.specs.Due.{due, first_due}
use Rattle.aps_core.proofs.machine.Machine.first_due.Given as goal

abbrev pub invariant-loop-c : goal.invariant-loop-c
invariant-loop-c l = record {
  same : l.first ≡ first_due l.self l.entries l.c;
  within : l.first < length l.self.cpus;
  least : l.least ≡ due l.self l.entries l.first;
}
