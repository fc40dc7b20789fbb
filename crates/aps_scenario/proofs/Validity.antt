-- What is read is a scenario.
use Rattle.std.proofs.Common.{◌≡◌, ℕ, ◌++◌, List, length, map, Ok, ap, subst}
use Rattle.toml.specs.Data.{Members}
use Rattle.aps_model.specs.declared.shape.Shape.{Shape}
use Rattle.aps_model.specs.declared.partition.PartitionRow.{PartitionRow}
use Rattle.aps_model.specs.declared.scenario.ThreadRow.{ThreadRow}
use Rattle.aps_model.specs.declared.command.CommandRow.{CommandRow}
use Rattle.aps_model.specs.Scenario.{Scenario}
use Rattle.aps_model.specs.Valid.{IsScenario, IsThreadRow, joinable}
use Rattle.std.specs.Prelude.{All}
use Rattle.aps_scenario.specs.Channels.{channels_at}
use Rattle.aps_scenario.specs.Commands.{commands_at}
use Rattle.aps_scenario.specs.Joinable.{joinable_at}
use Rattle.aps_scenario.specs.Partitions.{partitions_at}
use Rattle.aps_scenario.specs.Sizes.{shape_at}
use Rattle.aps_scenario.specs.Threads.{threads_at}
use Rattle.aps_scenario.proofs.ChannelNames.{channels_at-ok}
use Rattle.aps_scenario.proofs.CommandRows.{commands_at-ok}
use Rattle.aps_scenario.proofs.Shapes.{shape_at-ok}
use Rattle.aps_scenario.proofs.ThreadRows.{threads_at-ok}
use Rattle.aps_scenario.proofs.Trees.{partitions_at-ok}

-- the parts of a scenario, read from one table
pub IsScenario-from_parts : (t : Members) (shape : Shape) (partitions : List PartitionRow) (channels : List (List ℕ)) (threads : List ThreadRow) (commands : List CommandRow)
    → shape_at t ≡ Ok shape → partitions_at shape.parts t ≡ Ok partitions → channels_at t ≡ Ok channels
    → threads_at partitions channels (joinable_at partitions t) t ≡ Ok threads → commands_at shape threads t ≡ Ok commands
    → IsScenario (record { shape = shape; partitions = partitions; channels = channels; threads = threads; commands = commands })
IsScenario-from_parts t shape partitions channels threads commands shape_read partitions_read channels_read threads_read commands_read =
    let sizes = shape_at-ok t shape shape_read in
    let tree = partitions_at-ok shape.parts t partitions partitions_read in
    let names = channels_at-ok t channels channels_read in
    let rows = threads_at-ok partitions tree.some channels (joinable_at partitions t) t threads threads_read in
    let given = commands_at-ok shape threads sizes.some_tick t commands commands_read in
    let scenario : Scenario = record { shape = shape; partitions = partitions; channels = channels; threads = threads; commands = commands } in
    let same : joinable_at partitions t ≡ joinable scenario = ap (λ created. map (λ (row : PartitionRow). row.name) partitions ++ created) given.names in
    record {
      shape = sizes;
      tree = tree;
      few_channels = names.few;
      channels = names.each;
      channel_names = names.distinct;
      few_threads = rows.few;
      threads = subst (λ (known : List (List ℕ)). All (IsThreadRow (length partitions) (length channels) known) threads) same rows.each;
      thread_names = rows.distinct;
      few_commands = given.few;
      commands = given.each;
    }
