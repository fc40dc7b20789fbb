use Rattle.std.proofs.Common.{◌≡◌, map, take}
use Rattle.toml.specs.View.{items_of, items_view}
use Rattle.aps_scenario.specs.PrintedThreads.{thread_table}
use Rattle.aps_scenario.proofs.printing.threads.threads_value.Given as goal

abbrev pub invariant-loop-row : goal.invariant-loop-row
invariant-loop-row l = items_view l.values.items ≡ items_of (map (thread_table l.scenario.partitions l.scenario.channels) (take l.row-index l.threads))
