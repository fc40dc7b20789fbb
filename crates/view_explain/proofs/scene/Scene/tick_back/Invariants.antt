use Rattle.std.proofs.Common.{◌≡◌, ◌+◌, ◌-◌}
use Rattle.std.specs.List.{find, range_with_len}
use Rattle.view_explain.specs.Again.{is_back, tick_back}
use Rattle.view_explain.specs.Past.{state_of_past, tick_in}
use Rattle.view_explain.proofs.scene.Scene.tick_back.Given as goal

abbrev pub invariant-loop-k : goal.invariant-loop-k
invariant-loop-k l =
    tick_back l.self l.p ≡ find (is_back l.self l.p) (range_with_len l.k (tick_in l.self + ((state_of_past l.self).shape.window + 1) - l.k))
