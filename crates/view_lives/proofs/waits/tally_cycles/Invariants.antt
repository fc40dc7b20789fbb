use Rattle.std.proofs.Common.{◌≡◌, take}
use Rattle.view_lives.specs.Few.{AreFew}
use Rattle.view_lives.specs.Waits.{cycle_tally}
use Rattle.view_lives.proofs.waits.tally_cycles.Given as goal

abbrev pub invariant-loop-cycle : goal.invariant-loop-cycle
invariant-loop-cycle l = record {
  same : l.tally ≡ cycle_tally (take l.cycle-index l.cycles);
  few : AreFew l.cycle-index l.tally;
}
