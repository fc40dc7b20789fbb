use Rattle.std.proofs.Common.{◌≡◌, ◌++◌, string_bytes, take}
use Rattle.std.specs.List.{flat_map}
use Rattle.view_lives.specs.Text.{cycle_line}
use Rattle.view_lives.proofs.text.add_cycles.Given as goal

abbrev pub invariant-loop-cycle : goal.invariant-loop-cycle
invariant-loop-cycle l = string_bytes l.out ≡ string_bytes l.initial.out ++ flat_map (cycle_line l.name) (take l.cycle-index l.cycle-items)
