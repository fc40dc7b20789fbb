-- A scenario as the top table of its text.
use Rattle.std.specs.Prelude.{ℕ, nat_eq, if◌then◌else◌}
use Rattle.toml.specs.Data.{string, boolean, Members, no_members}
use Rattle.aps_model.specs.declared.shape.Shape.{Shape}
use Rattle.aps_model.specs.Limits.{percent}
use Rattle.aps_model.specs.Scenario.{Scenario}
use Rattle.aps_scenario.specs.declared.key.Key.TheVariants.{Version, Cpus, Tick, Window, Ticks, CallNs, Free, Limit, Bankruptcy, Partition, Channel, Thread, Command}
use Rattle.aps_scenario.specs.PrintedCommands.{command_table}
use Rattle.aps_scenario.specs.PrintedPartitions.{partition_array}
use Rattle.aps_scenario.specs.PrintedTable.{put, number_data, array_of_each}
use Rattle.aps_scenario.specs.PrintedThreads.{channel_table, thread_table}
use Rattle.aps_scenario.specs.PrintedWords.{free_word, bankruptcy_word}

-- the version that counts budgets in these parts
abbrev pub version_of : ℕ → ℕ
version_of parts = if nat_eq parts percent then 1 else 2

abbrev pub shape_members : Shape → Members
shape_members shape =
    put Bankruptcy (string (bankruptcy_word shape.bankruptcy))
    (put Limit (boolean shape.limit)
    (put Free (string (free_word shape.free))
    (put CallNs (number_data shape.call_ns)
    (put Ticks (number_data shape.ticks)
    (put Window (number_data shape.window)
    (put Tick (number_data shape.tick)
    (put Cpus (number_data shape.cpus)
    (put Version (number_data (version_of shape.parts)) no_members))))))))

abbrev pub scenario_members : Scenario → Members
scenario_members s =
    put Command (array_of_each (command_table s.threads) s.commands)
    (put Thread (array_of_each (thread_table s.partitions s.channels) s.threads)
    (put Channel (array_of_each channel_table s.channels)
    (put Partition (partition_array s.partitions) (shape_members s.shape))))
