use Rattle.std.proofs.Common.{◌≡◌, [], drop, length}
use Rattle.toml.specs.View.{items_view, array_view}
use Rattle.aps_scenario.specs.Program.{operations_from}
use Rattle.aps_scenario.proofs.program.operations_of.Given as goal

abbrev pub invariant-loop-value : goal.invariant-loop-value
invariant-loop-value l = record {
  goes_on : operations_from l.count l.channels l.joinable l.thread l.ops.items (items_view (drop l.value-index l.array.items)) ≡ operations_from l.count l.channels l.joinable l.thread [] (array_view l.array);
  count : length l.ops.items ≡ l.value-index;
}
