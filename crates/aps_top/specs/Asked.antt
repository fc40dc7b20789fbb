-- What a call is asked for.
use Rattle.std.specs.Prelude.{ℕ, List, Option, Some, None, ⊤}
use Rattle.aps_model.specs.declared.entry.Order.{Order}
use Rattle.aps_model.specs.declared.entry.Order.TheVariants.{Fixed}
use Rattle.aps_words.specs.declared.command.Command.{Command}
use Rattle.aps_words.specs.declared.command.Command.TheVariants.{Solo, Run, Gen}
use Rattle.aps_words.specs.declared.command.Report.{Report}
use Rattle.aps_words.specs.Command.{command}

-- the commands that need no other thread
abbrev pub calm : Command → Option Command
calm (Run order report limit) = None
calm command = Some command

abbrev pub calm_asked : Option Command → Option Command
calm_asked None = None
calm_asked (Some command) = calm command

-- the command that these words are, where it needs no other thread
abbrev pub calm_command : List (List ℕ) → Option Command
calm_command words = calm_asked (command words)

-- a run in this order, up to so many entries, of which this report is to be written
pub record RunAsked : Type 0 where
  pub order : Order
  pub report : Report
  pub limit : ℕ

-- the run that a command asks for
abbrev pub run_of : Command → Option RunAsked
run_of (Solo report limit) = Some (record { order = Fixed; report = report; limit = limit })
run_of (Run order report limit) = Some (record { order = order; report = report; limit = limit })
run_of command = None

abbrev pub run_asked : Option Command → Option RunAsked
run_asked None = None
run_asked (Some command) = run_of command

-- an input is to be read
abbrev pub IsToRead : Option Command → Type 0
IsToRead None = ⊥
IsToRead (Some (Gen seed cpus partitions ticks)) = ⊥
IsToRead (Some command) = ⊤
