use Rattle.std.proofs.Common.{map}
use Rattle.view_samples.specs.declared.overspent.Overspent.{Overspent}
use Rattle.view_pictures.specs.Strip.{all_drawn}
use Rattle.view_pictures.proofs.Marked.{AreSoFar}
use Rattle.view_pictures.proofs.strip.marks_of_overspent.Given as goal

abbrev pub invariant-loop-i : goal.invariant-loop-i
invariant-loop-i l = AreSoFar l.span.from l.span.to (map (λ (one : Overspent). one.moment) l.overspent) l.i (all_drawn l.marks.items)
