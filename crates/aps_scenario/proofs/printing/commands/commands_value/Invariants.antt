use Rattle.std.proofs.Common.{◌≡◌, map, take}
use Rattle.toml.specs.View.{items_of, items_view}
use Rattle.aps_scenario.specs.PrintedCommands.{command_table}
use Rattle.aps_scenario.proofs.printing.commands.commands_value.Given as goal

abbrev pub invariant-loop-row : goal.invariant-loop-row
invariant-loop-row l = items_view l.values.items ≡ items_of (map (command_table l.threads) (take l.row-index l.commands))
