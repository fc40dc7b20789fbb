use Rattle.std.proofs.Common.{◌≡◌}
use Rattle.std.specs.List.{filter_map, range_with_len}
use Rattle.view_explain.specs.Because.{above_at}
use Rattle.view_explain.proofs.scene.Scene.above.Given as goal

abbrev pub invariant-loop-y : goal.invariant-loop-y
invariant-loop-y l = l.found.items ≡ filter_map (above_at l.self l.x) (range_with_len 0 l.y)
