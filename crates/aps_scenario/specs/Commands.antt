-- The timed commands of the top table.
use Rattle.std.specs.Prelude.{ℕ, ◌-◌, List, [], ◌∷◌, ◌++◌, length, None, Result, Ok}
use Rattle.aps_model.specs.Limits.{most_commands}
use Rattle.toml.specs.Data.{Data, Items, Members}
use Rattle.aps_model.specs.declared.command.CommandRow.{CommandRow}
use Rattle.aps_model.specs.declared.scenario.ThreadRow.{ThreadRow}
use Rattle.aps_model.specs.declared.shape.Shape.{Shape}
use Rattle.aps_scenario.specs.declared.key.Key.TheVariants.{Command, Tick, Do}
use Rattle.aps_scenario.specs.declared.refusal.Finding.{Finding}
use Rattle.aps_scenario.specs.declared.refusal.Place.{Place}
use Rattle.aps_scenario.specs.declared.refusal.Place.TheVariants as place
use Rattle.aps_scenario.specs.declared.words.CommandKind.{CommandKind}
use Rattle.aps_scenario.specs.Calls.{command_keys, call_at}
use Rattle.aps_scenario.specs.Elements.{row_tables, read_each}
use Rattle.aps_scenario.specs.Joinable.{command_kind}
use Rattle.aps_scenario.specs.Row.{◌>>=◌, Row, row_integer, row_word, value_of, only, table_of}
use Rattle.aps_scenario.specs.Words.{command_words}

-- a tick of a run of so many
abbrev pub row_command_tick : ℕ → Row ℕ
row_command_tick ticks = row_integer Tick 0 (ticks - 1) 1 None

abbrev pub row_kind : Row CommandKind
row_kind = row_word Do command_words None

-- a command at this place, where these are the sizes and the threads
unfoldable pub command_read_at : Shape → List ThreadRow → Place → Data → Result CommandRow Finding
command_read_at shape threads place d = do
  t ← table_of place d
  known ← only (command_keys (command_kind t)) place t
  tick ← value_of (row_command_tick shape.ticks) place t
  kind ← value_of row_kind place t
  call ← call_at shape.parts threads kind place t
  Ok (record { tick = tick; call = call })

abbrev pub next_command : Shape → List ThreadRow → List CommandRow → Data → Result CommandRow Finding
next_command shape threads commands d = command_read_at shape threads (place.Command (length commands)) d

abbrev pub commands_with_new : List CommandRow → CommandRow → List CommandRow
commands_with_new commands new = commands ++ new ∷ []

-- the commands after these elements
abbrev pub commands_from : Shape → List ThreadRow → List CommandRow → Items → Result (List CommandRow) Finding
commands_from shape threads = read_each (next_command shape threads) commands_with_new

unfoldable pub commands_at : Shape → List ThreadRow → Members → Result (List CommandRow) Finding
commands_at shape threads t = do
  elements ← value_of (row_tables Command most_commands) place.Top t
  commands_from shape threads [] elements
