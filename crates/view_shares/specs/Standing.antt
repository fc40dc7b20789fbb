-- What commands leave of the rows and the shape, whatever they see.
use Rattle.std.specs.Prelude.{ℕ, List, Bool, replicate, nat_eq, if◌then◌else◌, None}
use Rattle.std.specs.List.{fold, list_any}
use Rattle.aps_model.specs.declared.command.Call.{Call}
use Rattle.aps_model.specs.declared.command.CommandRow.{CommandRow}
use Rattle.aps_model.specs.declared.command.CtlView.{CtlView}
use Rattle.aps_model.specs.declared.partition.PartitionRow.{PartitionRow}
use Rattle.aps_model.specs.declared.shape.Shape.{Shape}
use Rattle.aps_model.specs.Command.{perform}
use Rattle.aps_model.specs.Limits.{most_partitions}
use Rattle.aps_model.specs.SchedulerState.{SchedulerState}

-- the rows and the shape of a state
pub record Standing : Type 0 where
  pub rows : List PartitionRow
  pub shape : Shape

abbrev pub stand : List PartitionRow → Shape → Standing
stand rows shape = record { rows = rows; shape = shape }

abbrev pub standing_of : SchedulerState → Standing
standing_of s = stand s.rows s.shape

-- nothing is seen of usages and threads
abbrev pub unseen : CtlView
unseen = record { used = replicate most_partitions 0; critical_used = replicate most_partitions 0; thread = None }

-- after a command
abbrev pub commanded : Call → Standing → Standing
commanded call s = stand (perform call s.rows s.shape unseen).rows (perform call s.rows s.shape unseen).shape

-- after one of these commands, if it is one of this tick
abbrev pub commanded_at : ℕ → Standing → CommandRow → Standing
commanded_at tick s row = if nat_eq row.tick tick then commanded row.call s else s

-- after all of this tick
abbrev pub all_commanded : ℕ → List CommandRow → Standing → Standing
all_commanded tick commands s = fold (commanded_at tick) s commands

-- there is one of this tick
abbrev pub has_command : ℕ → List CommandRow → Bool
has_command tick commands = list_any (λ (row : CommandRow). nat_eq row.tick tick) commands
