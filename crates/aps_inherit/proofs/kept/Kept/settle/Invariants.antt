use Rattle.std.proofs.Common.{ℕ, Bool, Some}
use Rattle.aps_inherit.specs.Values.{AreRightBut, or_at}
use Rattle.aps_inherit.proofs.Values.{steps_left}
use Rattle.aps_inherit.proofs.kept.Kept.settle.Given as goal

abbrev pub invariant-loop-next : goal.invariant-loop-next
invariant-loop-next l =
    (late : ℕ → Bool) → AreRightBut (or_at late (Some l.fn.from)) l.content l.initial.self
    → AreRightBut (or_at late l.next) l.content l.self

abbrev pub decreases-loop-next : goal.decreases-loop-next
decreases-loop-next l = steps_left l.content.triples l.next
