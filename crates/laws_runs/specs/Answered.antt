-- The commands whose ticks have begun, in the order of their replies.
use Rattle.std.specs.Prelude.{ℕ, List, map, nat_lt, Option, Some, None}
use Rattle.std.specs.List.{flat_map, range_with_len}
use Rattle.aps_model.specs.declared.command.CommandRow.{CommandRow}
use Rattle.aps_model.specs.declared.command.Reply.{Reply}
use Rattle.laws_runs.specs.Waits.{one_if}
use Rattle.aps_model.specs.Scenario.{Scenario}
use Rattle.aps_model.specs.TickWork.{commands_of}

-- the places of the commands of tick j, in order of the scenario
abbrev pub places_of : Scenario → ℕ → List ℕ
places_of scenario j = map (λ (c : ℕ × CommandRow). c.0) (commands_of scenario j)

-- the places of the commands of ticks 0 to n-1, in order of tick, then of place
abbrev pub places_below : Scenario → ℕ → List ℕ
places_below scenario n = flat_map (places_of scenario) (range_with_len 0 n)

-- the places that are answered
abbrev pub places_answered : List Reply → List ℕ
places_answered replies = map (λ (reply : Reply). reply.command) replies

-- once for a command of a tick below n, and else never
abbrev pub once_below : ℕ → Option CommandRow → ℕ
once_below n None = 0
once_below n (Some row) = one_if (nat_lt row.tick n)
