use Rattle.std.proofs.Common.{◌≡◌, [], replicate}
use Rattle.view_lives.proofs.growing.unborn.Given as goal

abbrev pub invariant-loop : goal.invariant-loop
invariant-loop l = l.lives.items ≡ replicate l.counter []
