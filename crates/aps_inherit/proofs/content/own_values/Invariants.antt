use Rattle.std.proofs.Common.{◌≡◌, take}
use Rattle.aps_inherit.specs.Opening.{own_values}
use Rattle.aps_inherit.proofs.content.own_values.Given as goal

abbrev pub invariant-loop-row : goal.invariant-loop-row
invariant-loop-row l = l.own.items ≡ own_values (take l.row-index l.rows)
