use Rattle.std.proofs.Common.{◌≡◌, [], drop, length}
use Rattle.toml.specs.View.{items_view, array_view}
use Rattle.aps_scenario.specs.Commands.{commands_from}
use Rattle.aps_scenario.proofs.commands.commands_of.Given as goal

abbrev pub invariant-loop-value : goal.invariant-loop-value
invariant-loop-value l = record {
  goes_on : commands_from l.shape l.threads l.commands.items (items_view (drop l.value-index l.array.items)) ≡ commands_from l.shape l.threads [] (array_view l.array);
  count : length l.commands.items ≡ l.value-index;
}
