use Rattle.std.proofs.Common.{◌*◌, ◌≤◌, take}
use Rattle.aps_model.specs.Limits.{last_moment}
use Rattle.aps_report.specs.Windows.{AreUsed}
use Rattle.aps_report.proofs.by_window.table_of.Given as goal

abbrev pub invariant-loop-e : goal.invariant-loop-e
invariant-loop-e l = record {
  used : AreUsed l.shape (take l.e-index l.entries) l.windows l.cells.items;
  near : l.at_hand * l.span ≤ last_moment;
}
