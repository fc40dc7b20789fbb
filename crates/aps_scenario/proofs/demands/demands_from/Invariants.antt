use Rattle.std.proofs.Common.{◌≡◌, [], drop, length}
use Rattle.toml.specs.View.{items_view, array_view}
use Rattle.aps_scenario.specs.Demands.{demands_from}
use Rattle.aps_scenario.proofs.demands.demands_from.Given as goal

abbrev pub invariant-loop-value : goal.invariant-loop-value
invariant-loop-value l = record {
  goes_on : demands_from l.demands.items (items_view (drop l.value-index l.array.items)) ≡ demands_from [] (array_view l.array);
  count : length l.demands.items ≡ l.value-index;
}
