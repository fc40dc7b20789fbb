use Rattle.std.proofs.Common.{◌≡◌, length, take}
use Rattle.std.specs.List.{enumerate_from}
use Rattle.aps_ctl.proofs.pending.Ctl.new.Given as goal

abbrev pub invariant-loop-i : goal.invariant-loop-i
invariant-loop-i l = record {
  count : length l.pending.items ≡ l.i;
  so_far : l.pending.items ≡ enumerate_from 0 (take l.i l.commands);
}
