use Rattle.std.proofs.Common.{ap, ◌*◌}
use Rattle.aps_report.proofs.Windowed.{window-by}
use Rattle.aps_report.proofs.by_window.add_window.Goals as goal

pub returns : goal.returns
returns c =
    window-by c.args.cells.now c.args.rows c.args.window c.args.k _ _ _ _ _ (ap (λ w. c.args.k * w) c.from.ensures)
    c.in_ok-add_first.ensures c.in_ok-add_cells.ensures c.in_ok-add_newline.ensures
