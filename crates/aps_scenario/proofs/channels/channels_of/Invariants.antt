use Rattle.std.proofs.Common.{◌≡◌, [], drop, length}
use Rattle.toml.specs.View.{items_view, array_view}
use Rattle.aps_scenario.specs.Channels.{channels_from}
use Rattle.aps_scenario.proofs.channels.channels_of.Given as goal

abbrev pub invariant-loop-value : goal.invariant-loop-value
invariant-loop-value l = record {
  goes_on : channels_from l.channels.items (items_view (drop l.value-index l.array.items)) ≡ channels_from [] (array_view l.array);
  count : length l.channels.items ≡ l.value-index;
}
