use Rattle.aps_report.specs.Windows.{HaveParts}
use Rattle.aps_report.proofs.by_window.add_parts.Given as goal

abbrev pub invariant-loop-k : goal.invariant-loop-k
invariant-loop-k l = HaveParts l.shape l.e l.partition l.first l.k l.initial.cells l.cells
