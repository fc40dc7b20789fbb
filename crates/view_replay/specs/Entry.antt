-- The entry of a step.
use Rattle.std.specs.Prelude.{ℕ}
use Rattle.aps_model.specs.declared.entry.Entry.{Entry}
use Rattle.aps_model.specs.Step.{step}
use Rattle.aps_core.specs.Run.{Run, state_of_run}

-- of the step of processor c that comes next
abbrev pub entry_of : Run → ℕ → Entry
entry_of run c = (step run.setup.scenario (state_of_run run) run.entries c).entry
