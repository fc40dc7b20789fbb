-- The commands that are still to come, each with its place in the scenario.
use Rattle.std.specs.Prelude.{ℕ, List, [], ◌∷◌, Bool, if◌then◌else◌, nat_eq, Option}
use Rattle.std.specs.List.{filter, find}
use Rattle.std.specs.Option.{option_map}
use Rattle.aps_model.specs.declared.command.Call.{Call}
use Rattle.aps_model.specs.declared.command.CommandRow.{CommandRow}

-- the command stands at this tick
abbrev pub is_at : ℕ → ℕ × CommandRow → Bool
is_at tick command = nat_eq command.1.tick tick

-- a command as it is given, with its place
abbrev pub given : ℕ × CommandRow → ℕ × Call
given command = (command.0, command.1.call)

-- the first command of the tick
abbrev pub next_at : ℕ → List (ℕ × CommandRow) → Option (ℕ × Call)
next_at tick commands = option_map given (find (is_at tick) commands)

-- the others
abbrev pub without_next : ℕ → List (ℕ × CommandRow) → List (ℕ × CommandRow)
without_next tick [] = []
without_next tick (command ∷ commands) = if is_at tick command then commands else command ∷ without_next tick commands

-- all commands of the tick, in order
abbrev pub all_at : ℕ → List (ℕ × CommandRow) → List (ℕ × CommandRow)
all_at tick commands = filter (is_at tick) commands
