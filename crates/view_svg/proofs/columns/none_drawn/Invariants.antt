use Rattle.std.proofs.Common.{◌≡◌, length}
use Rattle.view_svg.proofs.columns.none_drawn.Given as goal

abbrev pub invariant-loop : goal.invariant-loop
invariant-loop l = length l.drawn.items ≡ l.counter
