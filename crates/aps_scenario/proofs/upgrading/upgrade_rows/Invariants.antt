use Rattle.std.proofs.Common.{◌≡◌, ◌++◌, map, take, drop}
use Rattle.aps_model.specs.Upgrade.{row_times_ten}
use Rattle.aps_scenario.proofs.upgrading.upgrade_rows.Given as goal

abbrev pub invariant-loop-i : goal.invariant-loop-i
invariant-loop-i l = l.rows.items ≡ map row_times_ten (take l.i l.initial.rows.items) ++ drop l.i l.initial.rows.items
