-- Dispatchers and their seats, as contracts see them.
use Rattle.std.specs.Prelude.{◌≡◌, ℕ, ◌+◌, ◌-◌, ◌^◌, ◌≤◌, min, ◌&&◌, nat_le, if◌then◌else◌, List, [], ◌∷◌}
use Rattle.atomic_table.specs.Seated.{TableId}
use Rattle.aps_model.specs.declared.entry.Entry.{Entry}
use Rattle.aps_core.specs.declared.turn.Turn.{Turn}
use Rattle.aps_core.specs.declared.turn.Turn.TheVariants.{Ended, NotYet, Took}
use Rattle.aps_core.specs.Run.{Run, Setup}
use Rattle.aps_core.specs.Turn.{IsTurn, after_turn}
use Rattle.aps_lock.specs.RunLog.{run_log}
use Rattle.aps_seats.specs.Seen.{IsSeenIn}

-- a dispatcher: the table that it shares, and the setup of its run
pub record DispatchData : Type 0 where
  pub table : TableId
  pub setup : Setup

-- a seat: its dispatcher's table, the run as it has seen it, its processors from the first to the last, and how many
-- turns in a row, up to its last one, named a processor of another seat
pub record SeatData : Type 0 where
  pub table : TableId
  pub seen : Run
  pub first : ℕ
  pub last : ℕ
  pub waited : ℕ

-- the seat is one of this dispatcher's
abbrev pub IsSeatOf : DispatchData → SeatData → Type 0
IsSeatOf dispatch seat = (seat.table ≡ dispatch.table) × (seat.seen.setup ≡ dispatch.setup)

-- the processor is one of the seat's
abbrev pub HasCpu : SeatData → ℕ → Type 0
HasCpu seat cpu = (seat.first ≤ cpu) × (cpu ≤ seat.last)

-- the seat has all processors of its run
abbrev pub HasAllCpus : SeatData → Type 0
HasAllCpus seat = (seat.first ≡ 0) × (seat.last + 1 ≡ seat.seen.setup.scenario.shape.cpus)

-- what the seat has seen is the beginning of the run, and what came since is of processors of other seats
abbrev pub HasSeen : SeatData → Run → Type 0
HasSeen seat run = IsSeenIn run_log seat.first (seat.last + 1) seat.seen run

-- how many turns in a row named a processor of another seat, after this answer of a seat with these processors
abbrev pub waited_after : ℕ → ℕ → ℕ → Turn → ℕ
waited_after first last waited (NotYet cpu due) =
    if (nat_le first cpu && nat_le cpu last) then 0 else min (waited + 1) (2 ^ 64 - 1)
waited_after first last waited (Ended end) = 0
waited_after first last waited (Took e) = 0

-- the entry that a turn took, if it took one
abbrev pub taken : Turn → List Entry
taken (Took e) = e ∷ []
taken (NotYet cpu due) = []
taken (Ended end) = []

-- The seat made one step of the processor, at one place of the one run, and has seen the run up to there. It had seen
-- the beginning of the run that the step found
abbrev pub IsSeatTurn : SeatData → ℕ → Turn → SeatData → Type 0
IsSeatTurn seat cpu turn later =
    (found : Run)
    × HasSeen seat found
    × IsTurn found cpu turn
    × (later ≡ record seat { seen = after_turn found turn; waited = waited_after seat.first seat.last seat.waited turn })
