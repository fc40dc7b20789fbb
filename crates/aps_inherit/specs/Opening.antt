-- The values at the start of a run.
use Rattle.std.specs.Prelude.{ℕ, List, map, replicate, Option, None}
use Rattle.aps_model.specs.declared.scenario.ThreadRow.{ThreadRow}
use Rattle.aps_model.specs.declared.state.Facts.{Facts}

-- the threads' own values
abbrev pub own_values : List ThreadRow → List Facts
own_values rows = map (λ (row : ThreadRow). record { partition = row.partition; priority = row.priority; critical = row.critical }) rows

-- nothing waits at so many channels
abbrev pub no_tops : ℕ → List (Option ℕ)
no_tops count = replicate count None
