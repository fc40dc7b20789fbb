use Rattle.std.proofs.Common.{◌+◌, ◌-◌, ◌≤◌}
use Rattle.view_svg.proofs.axis.add_axis.Given as goal

abbrev pub invariant-loop-moment : goal.invariant-loop-moment
invariant-loop-moment l = (l.span.from ≤ l.moment) × (l.moment ≤ l.span.to + l.step)

abbrev pub decreases-loop-moment : goal.decreases-loop-moment
decreases-loop-moment l = l.span.to + 1 - l.moment
