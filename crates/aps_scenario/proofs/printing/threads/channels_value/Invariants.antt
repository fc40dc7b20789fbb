use Rattle.std.proofs.Common.{◌≡◌, map, take}
use Rattle.toml.specs.View.{items_of, items_view}
use Rattle.aps_scenario.specs.PrintedThreads.{channel_table}
use Rattle.aps_scenario.proofs.printing.threads.channels_value.Given as goal

abbrev pub invariant-loop-name : goal.invariant-loop-name
invariant-loop-name l = items_view l.values.items ≡ items_of (map channel_table (take l.name-index l.channels))
