use Rattle.std.proofs.Common.{◌≡◌, ◌++◌, string_bytes, take}
use Rattle.std.specs.List.{flat_map}
use Rattle.view_explain.specs.Text.{above_line}
use Rattle.view_explain.proofs.lines.add_all_above.Given as goal

abbrev pub invariant-loop-one : goal.invariant-loop-one
invariant-loop-one l = string_bytes l.out ≡ string_bytes l.initial.out ++ flat_map (above_line l.scene) (take l.one-index l.above)
