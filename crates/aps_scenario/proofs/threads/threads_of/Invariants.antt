use Rattle.std.proofs.Common.{◌≡◌, [], drop, length}
use Rattle.toml.specs.View.{items_view, array_view}
use Rattle.aps_scenario.specs.Threads.{threads_from}
use Rattle.aps_scenario.proofs.threads.threads_of.Given as goal

abbrev pub invariant-loop-value : goal.invariant-loop-value
invariant-loop-value l = record {
  goes_on : threads_from l.partitions l.channels l.joinable l.threads.items (items_view (drop l.value-index l.array.items)) ≡ threads_from l.partitions l.channels l.joinable [] (array_view l.array);
  count : length l.threads.items ≡ l.value-index;
}
