-- The turns of a driver.
use Rattle.std.specs.Prelude.{◌≡◌, ℕ, List, [], ◌∷◌, ◌++◌}
use Rattle.aps_model.specs.declared.entry.Entry.{Entry}
use Rattle.aps_model.specs.Seat.{own_entries}
use Rattle.aps_core.specs.declared.turn.Turn.{Turn}
use Rattle.aps_core.specs.declared.turn.Turn.TheVariants as turn
use Rattle.aps_core.specs.Run.{IsLater}
use Rattle.aps_lock.specs.Seats.{HasCpu, IsSeatTurn, SeatData, taken}
use Rattle.aps_cpu.specs.declared.driver.Driven.{Driven}
use Rattle.aps_cpu.specs.declared.driver.Driven.TheVariants.{Ended, Waited}

-- after how many turns in a row that another seat has, a driver gives up
abbrev pub most_waited : ℕ
most_waited = 1000000

-- the same seat, with its dispatcher and its processors, and the run that it had seen further on
pub record IsOnFrom (seat later : SeatData) : Type 0 where
  pub table : later.table ≡ seat.table
  pub first : later.first ≡ seat.first
  pub last : later.last ≡ seat.last
  pub seen : IsLater seat.seen later.seen

-- these turns, each a processor of the seat and an answer and the newest first, lead from one seat to the other
abbrev pub AreTurns : List (ℕ × Turn) → SeatData → SeatData → Type 0
AreTurns [] seat later = later ≡ seat
AreTurns (made ∷ before) seat later =
    (between : SeatData)
    × AreTurns before seat between
    × HasCpu between made.0
    × IsSeatTurn between made.0 made.1 later

-- the entries that these turns took, the oldest first
abbrev pub taken_by : List (ℕ × Turn) → List Entry
taken_by [] = []
taken_by (made ∷ before) = taken_by before ++ taken made.1

-- the entries of the seat's processors are those that it had, and those that these turns took
abbrev pub OwnGrewBy : List (ℕ × Turn) → SeatData → SeatData → Type 0
OwnGrewBy turns seat later =
    own_entries seat.first seat.last later.seen.entries ≡ own_entries seat.first seat.last seat.seen.entries ++ taken_by turns

-- turns of the seat alone, of which the last one gave this answer, lead from one seat to the other
abbrev pub EndsWith : SeatData → Turn → SeatData → Type 0
EndsWith seat answer later =
    (cpu : ℕ)
    × (before : List (ℕ × Turn))
    × AreTurns ((cpu, answer) ∷ before) seat later
    × OwnGrewBy ((cpu, answer) ∷ before) seat later

-- what the answer of a driver says of its turns
abbrev pub IsDriven : SeatData → Driven → SeatData → Type 0
IsDriven seat (Ended end) later = EndsWith seat (turn.Ended end) later
IsDriven seat (Waited cpu due) later =
    EndsWith seat (turn.NotYet cpu due) later × (HasCpu later cpu → ⊥) × (later.waited ≡ most_waited)
