use Rattle.std.proofs.Common.{◌≡◌, ◌++◌, string_bytes}
use Rattle.std.specs.List.{flat_map, range_with_len}
use Rattle.aps_report.specs.Windows.{window_with}
use Rattle.aps_report.proofs.by_window.add_windows.Given as goal

abbrev pub invariant-loop-k : goal.invariant-loop-k
invariant-loop-k l = string_bytes l.out ≡ string_bytes l.initial.out ++ flat_map (window_with l.cells l.rows l.window) (range_with_len 0 l.k)
