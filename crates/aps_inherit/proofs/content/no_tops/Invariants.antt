use Rattle.std.proofs.Common.{◌≡◌}
use Rattle.aps_inherit.specs.Opening.{no_tops}
use Rattle.aps_inherit.proofs.content.no_tops.Given as goal

abbrev pub invariant-loop : goal.invariant-loop
invariant-loop l = l.tops.items ≡ no_tops l.counter
