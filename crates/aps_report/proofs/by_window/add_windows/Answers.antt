use Rattle.aps_report.specs.Windows.{window_with}
use Rattle.aps_report.proofs.Ranges.{flat_map_range_more}
use Rattle.aps_report.proofs.by_window.add_windows.Goals as goal

pub loop-k-preserved : goal.loop-k-preserved
loop-k-preserved c =
    flat_map_range_more (window_with c.args.cells.now c.args.rows c.args.window) _ _ _ c.loop-k.k c.loop-k.invariant c.in_ok-add_window.ensures
