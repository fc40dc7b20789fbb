use Rattle.std.proofs.Common.{◌≡◌, replicate}
use Rattle.view_lives.specs.Growing.{nothing_aside}
use Rattle.view_lives.proofs.growing.nothing_aside.Given as goal

abbrev pub invariant-loop : goal.invariant-loop
invariant-loop l = l.aside.items ≡ replicate l.counter nothing_aside
