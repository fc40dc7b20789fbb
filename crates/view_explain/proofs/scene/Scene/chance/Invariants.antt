use Rattle.std.proofs.Common.{◌≡◌, None}
use Rattle.std.specs.List.{fold, range_with_len}
use Rattle.view_explain.specs.Because.{chance_on, sooner}
use Rattle.view_explain.proofs.scene.Scene.chance.Given as goal

abbrev pub invariant-loop-c : goal.invariant-loop-c
invariant-loop-c l = l.first ≡ fold (λ first c. sooner first (chance_on l.self l.x c)) None (range_with_len 0 l.c)
