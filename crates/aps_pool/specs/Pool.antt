-- The live scheduler of a pool, and its seats.
use Rattle.std.specs.Prelude.{◌≡◌, ◌++◌, [], ◌∷◌, length, Option, Some, None}
use Rattle.aps_model.specs.declared.entry.Entry.{Entry}
use Rattle.aps_live.specs.declared.event.LiveEvent.TheVariants.{Stay}
use Rattle.aps_live.specs.RunLog.{live_log}
use Rattle.aps_live.specs.Seats.{LiveData, LiveSeatData, own_steps}

-- a scheduler of which nothing is said
abbrev pub no_live : LiveData
no_live = record {
  table = record { words = 0; slots = 0; views_name = 0; atom = 0; block = 0; offset = 0; slot_names = [] };
  setup = live_log.no_run.setup;
}

-- the scheduler has what the pool is made for
abbrev pub IsMadeFor : LiveData → Type 0
IsMadeFor live = (live.setup.scenario.shape.cpus ≡ 2) × (length live.setup.scenario.threads ≡ 4)

-- the same seat: its scheduler, its processors and the setup of its run stand
pub record IsStill (seat later : LiveSeatData) : Type 0 where
  pub table : later.table ≡ seat.table
  pub setup : later.seen.setup ≡ seat.seen.setup
  pub first : later.first ≡ seat.first
  pub last : later.last ≡ seat.last

-- The seat asked for its processors and got this entry: of its own steps there is this one more. Where it got none there is
-- no other
abbrev pub IsAsked : LiveSeatData → Option Entry → LiveSeatData → Type 0
IsAsked seat None later = own_steps seat.first seat.last later.seen.steps ≡ own_steps seat.first seat.last seat.seen.steps
IsAsked seat (Some e) later =
    own_steps seat.first seat.last later.seen.steps
    ≡ own_steps seat.first seat.last seat.seen.steps ++ (record { entry = e; event = Stay }) ∷ []
