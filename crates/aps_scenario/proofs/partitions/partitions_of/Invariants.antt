use Rattle.std.proofs.Common.{◌≡◌, ◌+◌, [], ◌∷◌, drop, length}
use Rattle.toml.specs.View.{items_view, array_view}
use Rattle.aps_scenario.specs.Partitions.{partitions_from, system}
use Rattle.aps_scenario.proofs.partitions.partitions_of.Given as goal

abbrev pub invariant-loop-value : goal.invariant-loop-value
invariant-loop-value l = record {
  goes_on : partitions_from l.parts l.rows.items (items_view (drop l.value-index l.array.items)) ≡ partitions_from l.parts (system l.parts ∷ []) (array_view l.array);
  count : length l.rows.items ≡ l.value-index + 1;
}
