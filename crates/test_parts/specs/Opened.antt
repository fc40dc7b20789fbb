-- What the tests ask of a run.
use Rattle.std.specs.Prelude.{◌≡◌, ◌≤◌, length}
use Rattle.aps_live.specs.Seats.{LiveData, LiveSeatData}

-- it has four threads or more
abbrev pub HasFour : LiveData → Type 0
HasFour live = 4 ≤ length live.setup.scenario.threads

-- the same seat: its scheduler, its processors and the setup of its run stand
pub record IsStill (seat later : LiveSeatData) : Type 0 where
  pub table : later.table ≡ seat.table
  pub setup : later.seen.setup ≡ seat.seen.setup
  pub first : later.first ≡ seat.first
  pub last : later.last ≡ seat.last
