use Rattle.std.specs.Prelude.{ℕ, List, All}
use Rattle.std.specs.List.{fold}
use Rattle.aps_model.specs.declared.command.Call.{Call}
use Rattle.aps_model.specs.declared.command.CommandRow.{CommandRow}
use Rattle.aps_model.specs.declared.entry.Entry.{Entry}
use Rattle.aps_model.specs.SchedulerState.{SchedulerState}
use Rattle.aps_model.specs.TickWork.{do_command}
use Rattle.aps_model.specs.Valid.{IsCall}
use Rattle.aps_ctl.specs.Pending.{all_at}

-- the numbers and names of a command have their ranges, for some parts and number of threads
abbrev pub IsCallInRange : Call → Type 0
IsCallInRange call = (parts : ℕ) × (threads : ℕ) × IsCall parts threads call

-- and those of each of these commands
abbrev pub AreInRange : List (ℕ × CommandRow) → Type 0
AreInRange commands = All (λ (c : ℕ × CommandRow). IsCallInRange c.1.call) commands

-- the command of this tick and this place of the scenario
abbrev pub command_at : ℕ → ℕ → Call → ℕ × CommandRow
command_at tick place call = (place, record { tick = tick; call = call })

-- the state after all commands of the tick that are still to come
abbrev pub all_done : List Entry → ℕ → SchedulerState → List (ℕ × CommandRow) → SchedulerState
all_done h tick s pending = fold (do_command h tick) s (all_at tick pending)
