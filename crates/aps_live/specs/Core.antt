-- What the parts of a core have to do with its run.
use Rattle.std.specs.Prelude.{◌≡◌, ℕ, ◌/◌, ◌<◌, ◌≤◌, List, [], ◌∷◌, length, slice_index_or}
use Rattle.aps_model.specs.declared.entry.Entry.{Entry}
use Rattle.aps_model.specs.declared.merit.PartFacts.{PartFacts}
use Rattle.aps_model.specs.Due.{last_end}
use Rattle.aps_window.specs.Window.{Window}
use Rattle.aps_live.specs.declared.event.LiveEvent.{LiveEvent}
use Rattle.aps_live.specs.LiveHistory.{Taken, entries_of, events_of, latest}
use Rattle.aps_live.specs.LiveRun.{IsLiveRun, LiveRun, live_state_of}
use Rattle.aps_live.specs.LiveState.{LiveState}
use Rattle.aps_live.specs.Tied.{IsTied}

-- the entries, each with the event at its place
abbrev pub pairs : List Entry → List LiveEvent → List Taken
pairs [] events = []
pairs (e ∷ entries) [] = []
pairs (e ∷ entries) (v ∷ events) = record { entry = e; event = v } ∷ pairs entries events

-- where the window, the ends and the latest moment stand after these entries
pub record IsAt (tick span cpus : ℕ) (h : List Entry) (window : Window) (lasts : List ℕ) (moment : ℕ) : Type 0 where
  pub tied : IsTied tick window h
  pub at_tick : window.tick ≡ latest h / tick
  pub span_is : window.span ≡ span
  pub one_each : length lasts ≡ cpus
  pub ends : (c : ℕ) → c < cpus → slice_index_or lasts c 0 ≡ last_end h c
  pub is_latest : moment ≡ latest h

-- what each core keeps: its parts stand for its run
pub record IsCore (run : LiveRun) (state : LiveState) (window : Window) (lasts : List ℕ) (moment : ℕ) (parts : List PartFacts)
    (entries : List Entry) (events : List LiveEvent) : Type 0 where
  pub keeps : IsLiveRun run
  pub machine : state ≡ live_state_of run
  pub stands : IsAt run.setup.scenario.shape.tick run.setup.scenario.shape.window run.setup.scenario.shape.cpus
      (entries_of run.steps) window lasts moment
  pub room : length parts ≡ length run.setup.scenario.partitions
  pub recorded : entries ≡ entries_of run.steps
  pub told : events ≡ events_of run.steps
