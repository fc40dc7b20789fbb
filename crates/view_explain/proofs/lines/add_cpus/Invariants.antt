use Rattle.std.proofs.Common.{◌≡◌, ◌++◌, string_bytes}
use Rattle.std.specs.List.{flat_map, range_with_len}
use Rattle.view_explain.specs.Text.{cpu_line}
use Rattle.view_explain.proofs.lines.add_cpus.Given as goal

abbrev pub invariant-loop-c : goal.invariant-loop-c
invariant-loop-c l = string_bytes l.out ≡ string_bytes l.initial.out ++ flat_map (cpu_line l.scene l.x) (range_with_len 0 l.c)
