use Rattle.std.proofs.Common.{◌/◌, refl, string_bytes}
use Rattle.aps_report.proofs.Windowed.{windows-by}
use Rattle.aps_report.proofs.by_window.windows.Goals as goal

pub returns : goal.returns
returns c =
    windows-by c.args.history.now (c.finished_ticks.result / c.from.result) c.in_ok-cells.cells.items
    (string_bytes c.add_windows_title.new.out) (string_bytes c.add_end.new.out) (string_bytes c.add_windows.new.out)
    c.rows.ensures.keeps.few_rows
    (rw (c.finished_ticks.ensures.same, c.from.ensures, c.shape-shape.ensures.same, c.entries-entries.ensures.same) refl)
    (rw (← c.shape-shape.ensures.same, ← c.entries-entries.ensures.same) c.in_ok-cells.ensures)
    (rw c.new-out.ensures.bytes at c.in_ok-add_windows_title.ensures)
    (rw (← c.end.ensures) c.in_ok-add_end.ensures)
    (rw (← c.shape-shape.ensures.same, ← c.rows.ensures.same, ← c.deref.ensures.value) c.in_ok-add_windows.ensures)
