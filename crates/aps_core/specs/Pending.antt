-- The commands of a run that are still to come.
use Rattle.std.specs.Prelude.{◌≡◌, ℕ, ◌*◌, List, false}
use Rattle.aps_model.specs.declared.command.CommandRow.{CommandRow}
use Rattle.aps_model.specs.declared.entry.Entry.{Entry}
use Rattle.aps_model.specs.Scenario.{Scenario}
use Rattle.aps_model.specs.TickWork.{commands_of}
use Rattle.aps_ctl.specs.Pending.{all_at}
use Rattle.laws_runs.specs.Boundaries.{is_met}

-- of each tick whose boundary no entry has met, all commands are still to come, in order of the scenario
abbrev pub IsPending : Scenario → ℕ → List Entry → List (ℕ × CommandRow) → Type 0
IsPending scenario tick h pending = (j : ℕ) → is_met h (j * tick) ≡ false → all_at j pending ≡ commands_of scenario j
