-- The thread of a name.
use Rattle.std.specs.Prelude.{ℕ, List, Option, Some, None}
use Rattle.std.specs.List.{position}
use Rattle.std.specs.Str.{bytes_eq}
use Rattle.aps_model.specs.declared.scenario.ThreadRow.{ThreadRow}

-- the thread that has this name, if there is a name and one of these threads has it
abbrev pub thread_named : List ThreadRow → Option (List ℕ) → Option ℕ
thread_named threads None = None
thread_named threads (Some name) = position (λ (row : ThreadRow). bytes_eq row.name name) threads
