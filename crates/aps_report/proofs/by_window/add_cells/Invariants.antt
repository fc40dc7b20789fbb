use Rattle.std.proofs.Common.{◌≡◌, ◌++◌, string_bytes}
use Rattle.std.specs.List.{flat_map, range_with_len}
use Rattle.aps_report.specs.Windows.{cell_words}
use Rattle.aps_report.proofs.by_window.add_cells.Given as goal

abbrev pub invariant-loop-p : goal.invariant-loop-p
invariant-loop-p l = string_bytes l.out ≡ string_bytes l.initial.out ++ flat_map (cell_words l.cells l.k) (range_with_len 0 l.p)
