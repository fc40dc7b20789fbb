use Rattle.std.proofs.Common.{take}
use Rattle.aps_report.specs.Totals.{AreSums}
use Rattle.aps_report.proofs.totals.Totals.of.Given as goal

abbrev pub invariant-loop-e : goal.invariant-loop-e
invariant-loop-e l = AreSums (take l.e-index l.entries) l.totals
