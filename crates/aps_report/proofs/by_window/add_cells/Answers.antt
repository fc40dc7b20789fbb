use Rattle.aps_report.specs.Windows.{cell_words}
use Rattle.aps_report.proofs.Ranges.{flat_map_range_more}
use Rattle.aps_report.proofs.by_window.add_cells.Goals as goal

pub loop-p-preserved : goal.loop-p-preserved
loop-p-preserved c = flat_map_range_more (cell_words c.args.cells.now c.args.k) _ _ _ c.loop-p.p c.loop-p.invariant c.in_ok-add_used.ensures
