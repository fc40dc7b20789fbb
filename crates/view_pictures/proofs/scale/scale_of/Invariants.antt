use Rattle.std.proofs.Common.{◌≡◌, ◌<◌, ℕ, false}
use Rattle.view_pictures.specs.Scale.{is_below_top, top_of_scale}
use Rattle.view_pictures.proofs.scale.scale_of.Given as goal

-- the part isn't below any top so far
abbrev pub invariant-loop-i : goal.invariant-loop-i
invariant-loop-i l = (k : ℕ) → k < l.i → is_below_top l.part l.whole (top_of_scale k) ≡ false
