use Rattle.std.proofs.Common.{◌≡◌, take}
use Rattle.std.specs.List.{filter}
use Rattle.view_marks.specs.declared.starved.Starved.{Starved}
use Rattle.view_svg.specs.Span.{meets}
use Rattle.view_pictures.proofs.timeline.shown_of.Given as goal

abbrev pub invariant-loop-bar : goal.invariant-loop-bar
invariant-loop-bar l = l.shown.items ≡ filter (λ (bar : Starved). meets l.span.from l.span.to bar.from bar.to) (take l.bar-index l.bars)
