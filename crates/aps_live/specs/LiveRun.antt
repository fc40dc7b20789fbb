-- A run of live steps under way, and what one more call does to it.
use Rattle.std.specs.Prelude.{◌≡◌, ℕ, ◌<◌, ◌≤◌, ◌++◌, List, [], ◌∷◌, length, ⊤}
use Rattle.aps_model.specs.declared.entry.Entry.{Entry}
use Rattle.aps_model.specs.Scenario.{Scenario}
use Rattle.aps_model.specs.Valid.{IsScenario}
use Rattle.aps_live.specs.declared.event.LiveEvent.{LiveEvent}
use Rattle.aps_live.specs.declared.turn.LiveTurn.{LiveTurn}
use Rattle.aps_live.specs.declared.turn.LiveTurn.TheVariants.{Back, Full, Took}
use Rattle.aps_live.specs.LiveHistory.{IsLive, Taken, entries_of, latest, live_after}
use Rattle.aps_live.specs.LiveState.{LiveState, live_opening}
use Rattle.aps_live.specs.LiveStep.{live_step}
use Rattle.aps_model.specs.Limits.{last_moment, most_entries}

-- what a run was opened with
pub record LiveSetup : Type 0 where
  pub scenario : Scenario
  pub limit : ℕ

-- a run: its setup, which nothing changes, and its steps so far
pub record LiveRun : Type 0 where
  pub setup : LiveSetup
  pub steps : List Taken

-- the state that the steps leave
abbrev pub live_state_of : LiveRun → LiveState
live_state_of run = live_after run.setup.scenario (live_opening run.setup.scenario) [] run.steps

-- what each run keeps
pub record IsLiveRun (run : LiveRun) : Type 0 where
  pub valid : IsScenario run.setup.scenario
  pub some : 1 ≤ run.setup.limit
  pub few : run.setup.limit ≤ most_entries
  pub live : IsLive run.setup.scenario run.steps
  pub fits : length run.steps ≤ run.setup.limit
  pub early : latest (entries_of run.steps) ≤ last_moment

-- the moment is before the latest one of the run, which is this
pub record IsBack (run : LiveRun) (now seen : ℕ) : Type 0 where
  pub is_latest : seen ≡ latest (entries_of run.steps)
  pub before : now < seen

-- the run has as many steps as its limit, and the moment isn't before its latest one
pub record IsFull (run : LiveRun) (now : ℕ) : Type 0 where
  pub full : length run.steps ≡ run.setup.limit
  pub after : latest (entries_of run.steps) ≤ now

-- the run has room, the moment isn't before its latest one, and this is the entry of the step
pub record IsTaken (run : LiveRun) (c now : ℕ) (event : LiveEvent) (e : Entry) : Type 0 where
  pub room : length run.steps < run.setup.limit
  pub after : latest (entries_of run.steps) ≤ now
  pub stepped : e ≡ (live_step run.setup.scenario (live_state_of run) (entries_of run.steps) c now event).entry

-- what the call answers: of these cases one holds, and fixes the answer
abbrev pub IsLiveTurn : LiveRun → ℕ → ℕ → LiveEvent → LiveTurn → Type 0
IsLiveTurn run c now event (Back seen) = IsBack run now seen
IsLiveTurn run c now event Full = IsFull run now
IsLiveTurn run c now event (Took e) = IsTaken run c now event e

-- the run with one step more
abbrev pub with_step : LiveRun → Entry → LiveEvent → LiveRun
with_step run e event = record run { steps = run.steps ++ (record { entry = e; event = event }) ∷ [] }

-- the run after the call
abbrev pub after_live_turn : LiveRun → LiveEvent → LiveTurn → LiveRun
after_live_turn run event (Back seen) = run
after_live_turn run event Full = run
after_live_turn run event (Took e) = with_step run e event

-- the entry that was taken, if one was, is the processor's
abbrev pub IsOwn : ℕ → LiveTurn → Type 0
IsOwn c (Back seen) = ⊤
IsOwn c Full = ⊤
IsOwn c (Took e) = e.cpu ≡ c
