-- The channels and the threads as arrays of tables.
use Rattle.std.specs.Prelude.{ℕ, List}
use Rattle.toml.specs.Data.{Data, string, boolean, table, no_members}
use Rattle.aps_model.specs.declared.partition.PartitionRow.{PartitionRow}
use Rattle.aps_model.specs.declared.program.Op.{Op}
use Rattle.aps_model.specs.declared.scenario.ThreadRow.{ThreadRow}
use Rattle.aps_model.specs.Partition.{row_or_none}
use Rattle.aps_scenario.specs.declared.key.Key.TheVariants.{Name, Partition, Priority, Policy, Critical, Program}
use Rattle.aps_scenario.specs.PrintedOperation.{operation_text}
use Rattle.aps_scenario.specs.PrintedTable.{put, number_data, array_of_each}
use Rattle.aps_scenario.specs.PrintedWords.{policy_word}

abbrev pub channel_table : List ℕ → Data
channel_table name = table (put Name (string name) no_members)

abbrev pub program_array : List (List ℕ) → List Op → Data
program_array channels ops = array_of_each (λ op. string (operation_text channels op)) ops

-- a thread as a table, where these are the partitions and the channels
abbrev pub thread_table : List PartitionRow → List (List ℕ) → ThreadRow → Data
thread_table partitions channels row =
    table
    (put Program (program_array channels row.program)
    (put Critical (boolean row.critical)
    (put Policy (string (policy_word row.policy))
    (put Priority (number_data row.priority)
    (put Partition (string (row_or_none partitions row.partition).name)
    (put Name (string row.name) no_members))))))
