-- The seats of a run, split into a row of one for each processor.
use Rattle.std.specs.Prelude.{◌≡◌, ℕ, ◌+◌, List, [], ◌∷◌}
use Rattle.aps_core.specs.Run.{IsLater, Run}
use Rattle.aps_lock.specs.Seats.{DispatchData, IsSeatOf, SeatData}

-- a seat of the dispatcher that may be driven
abbrev pub IsDrivable : DispatchData → SeatData → Type 0
IsDrivable dispatch seat = IsSeatOf dispatch seat × (seat.waited ≡ 0)

-- the seat has seen the run from there on
abbrev pub HasSeenFrom : Run → SeatData → Type 0
HasSeenFrom run seat = IsLater run seat.seen

-- the same of a seat that wasn't driven yet
abbrev pub IsFresh : Run → SeatData → Type 0
IsFresh run seat = (seat.waited ≡ 0) × HasSeenFrom run seat

-- seats of the dispatcher of which that holds; their processors go down without a gap, from below the end to the first
abbrev pub AreSeatsInRow : DispatchData → (SeatData → Type 0) → List SeatData → ℕ → ℕ → Type 0
AreSeatsInRow dispatch holds [] end first = end ≡ first
AreSeatsInRow dispatch holds (seat ∷ seats) end first =
    (IsSeatOf dispatch seat × holds seat) × (seat.last + 1 ≡ end) × AreSeatsInRow dispatch holds seats seat.first first
