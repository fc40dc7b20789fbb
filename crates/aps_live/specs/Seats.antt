-- Live schedulers and their seats, as contracts see them.
use Rattle.std.specs.Prelude.{◌≡◌, ℕ, ◌+◌, ◌≤◌, ◌&&◌, nat_le, List, [], ◌∷◌}
use Rattle.std.specs.List.{filter}
use Rattle.atomic_table.specs.Seated.{TableId}
use Rattle.aps_live.specs.declared.event.LiveEvent.{LiveEvent}
use Rattle.aps_live.specs.declared.turn.LiveTurn.{LiveTurn}
use Rattle.aps_live.specs.declared.turn.LiveTurn.TheVariants.{Back, Full, Took}
use Rattle.aps_live.specs.LiveHistory.{Taken}
use Rattle.aps_live.specs.LiveRun.{IsLiveTurn, LiveRun, LiveSetup, after_live_turn}
use Rattle.aps_live.specs.RunLog.{live_log}
use Rattle.aps_seats.specs.Seen.{IsSeenIn}

-- a live scheduler: the table that it shares, and the setup of its run
pub record LiveData : Type 0 where
  pub table : TableId
  pub setup : LiveSetup

-- a seat: its scheduler's table, the run as it has seen it, and its processors from the first to the last
pub record LiveSeatData : Type 0 where
  pub table : TableId
  pub seen : LiveRun
  pub first : ℕ
  pub last : ℕ

-- the seat is one of this scheduler's
abbrev pub IsSeatOf : LiveData → LiveSeatData → Type 0
IsSeatOf live seat = (seat.table ≡ live.table) × (seat.seen.setup ≡ live.setup)

-- the processor is one of the seat's
abbrev pub HasCpu : LiveSeatData → ℕ → Type 0
HasCpu seat cpu = (seat.first ≤ cpu) × (cpu ≤ seat.last)

-- the seat has all processors of its run
abbrev pub HasAllCpus : LiveSeatData → Type 0
HasAllCpus seat = (seat.first ≡ 0) × (seat.last + 1 ≡ seat.seen.setup.scenario.shape.cpus)

-- what the seat has seen is the beginning of the run, and what came since is of processors of other seats
abbrev pub HasSeen : LiveSeatData → LiveRun → Type 0
HasSeen seat run = IsSeenIn live_log seat.first (seat.last + 1) seat.seen run

-- of the steps those of the processors from the first to the last
abbrev pub own_steps : ℕ → ℕ → List Taken → List Taken
own_steps first last steps = filter (λ (t : Taken). nat_le first t.entry.cpu && nat_le t.entry.cpu last) steps

-- the step that a call took, if it took one
abbrev pub taken : LiveEvent → LiveTurn → List Taken
taken event (Took e) = (record { entry = e; event = event }) ∷ []
taken event (Back seen) = []
taken event Full = []

-- The seat made one call for the processor, at one place of the one run, and has seen the run up to there. It had seen
-- the beginning of the run that the call found
abbrev pub IsSeatTurn : LiveSeatData → ℕ → ℕ → LiveEvent → LiveTurn → LiveSeatData → Type 0
IsSeatTurn seat cpu now event turn later =
    (found : LiveRun)
    × HasSeen seat found
    × IsLiveTurn found cpu now event turn
    × (later ≡ record seat { seen = after_live_turn found event turn })
