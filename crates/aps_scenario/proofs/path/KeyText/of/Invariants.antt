use Rattle.std.proofs.Common.{◌≡◌, ◌++◌, ◌-◌, take, replicate}
use Rattle.aps_scenario.proofs.path.KeyText.of.Given as goal
use Rattle.aps_scenario.specs.Path.{longest_key}

abbrev pub invariant-loop-i : goal.invariant-loop-i
invariant-loop-i l = l.bytes ≡ take l.i l.key ++ replicate (longest_key - l.i) 0
