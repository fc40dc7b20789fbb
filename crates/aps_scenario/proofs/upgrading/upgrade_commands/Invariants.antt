use Rattle.std.proofs.Common.{◌≡◌, ◌++◌, map, take, drop}
use Rattle.aps_scenario.proofs.Upgrades.{command_scaled}
use Rattle.aps_scenario.proofs.upgrading.upgrade_commands.Given as goal

abbrev pub invariant-loop-i : goal.invariant-loop-i
invariant-loop-i l = l.commands.items ≡ map command_scaled (take l.i l.initial.commands.items) ++ drop l.i l.initial.commands.items
