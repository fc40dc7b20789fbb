use Rattle.std.proofs.Common.{◌≡◌, length}
use Rattle.view_svg.proofs.columns.no_times.Given as goal

abbrev pub invariant-loop : goal.invariant-loop
invariant-loop l = length l.times.items ≡ l.counter
