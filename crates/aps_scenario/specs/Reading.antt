-- The scenario that a text is.
use Rattle.std.specs.Prelude.{ℕ, List, [], ◌∷◌, Result, Ok}
use Rattle.toml.specs.Data.{Members}
use Rattle.aps_model.specs.Scenario.{Scenario}
use Rattle.aps_scenario.specs.declared.key.Key.{Key}
use Rattle.aps_scenario.specs.declared.key.Key.TheVariants.{Version, Cpus, Tick, Window, Ticks, CallNs, Free, Limit, Bankruptcy, Partition, Channel, Thread, Command}
use Rattle.aps_scenario.specs.declared.refusal.Finding.{Finding}
use Rattle.aps_scenario.specs.declared.refusal.Place.TheVariants.{Top}
use Rattle.aps_scenario.specs.Channels.{channels_at}
use Rattle.aps_scenario.specs.Commands.{commands_at}
use Rattle.aps_scenario.specs.Document.{document_reads}
use Rattle.aps_scenario.specs.Joinable.{joinable_at}
use Rattle.aps_scenario.specs.Partitions.{partitions_at}
use Rattle.aps_scenario.specs.Refusal.{Refusal}
use Rattle.aps_scenario.specs.Row.{◌>>=◌, only}
use Rattle.aps_scenario.specs.Sizes.{shape_at}
use Rattle.aps_scenario.specs.Threads.{threads_at}

abbrev pub top_keys : List Key
top_keys =
    Version ∷ Cpus ∷ Tick ∷ Window ∷ Ticks ∷ CallNs ∷ Free ∷ Limit ∷ Bankruptcy ∷ Partition ∷ Channel ∷ Thread ∷ Command ∷ []

-- the scenario that a document's top table is, or the first part that breaks a rule
unfoldable pub scenario_at : Members → Result Scenario Finding
scenario_at t = do
  known ← only top_keys Top t
  shape ← shape_at t
  partitions ← partitions_at shape.parts t
  channels ← channels_at t
  threads ← threads_at partitions channels (joinable_at partitions t) t
  commands ← commands_at shape threads t
  Ok (record { shape = shape; partitions = partitions; channels = channels; threads = threads; commands = commands })

-- the scenario that these bytes are, or why they are none
abbrev pub reads : List ℕ → Result Scenario Refusal
reads bytes = document_reads scenario_at bytes
