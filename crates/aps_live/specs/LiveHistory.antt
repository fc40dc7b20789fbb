-- Histories of live steps.
use Rattle.std.specs.Prelude.{◌≡◌, ℕ, ◌<◌, ◌≤◌, ◌++◌, max, List, [], ◌∷◌, length, map, ⊤}
use Rattle.std.specs.List.{fold}
use Rattle.aps_model.specs.declared.entry.Entry.{Entry}
use Rattle.aps_model.specs.Scenario.{Scenario}
use Rattle.aps_live.specs.declared.event.LiveEvent.{LiveEvent}
use Rattle.aps_live.specs.declared.event.LiveEvent.TheVariants.{Stay, Block, Wake}
use Rattle.aps_live.specs.LiveState.{LiveState, live_opening}
use Rattle.aps_live.specs.LiveStep.{LiveStep, live_step}

-- an entry with the event of its caller
pub record Taken : Type 0 where
  pub entry : Entry
  pub event : LiveEvent

abbrev pub entries_of : List Taken → List Entry
entries_of steps = map (λ (t : Taken). t.entry) steps

abbrev pub events_of : List Taken → List LiveEvent
events_of steps = map (λ (t : Taken). t.event) steps

-- the latest moment at which one of these entries ends, or 0
abbrev pub latest : List Entry → ℕ
latest h = fold (λ found (e : Entry). max found e.to) 0 h

-- a thread that the event names exists
abbrev pub NamesThread : Scenario → LiveEvent → Type 0
NamesThread scenario Stay = ⊤
NamesThread scenario Block = ⊤
NamesThread scenario (Wake x) = x < length scenario.threads

-- the state that these steps leave, after earlier entries
abbrev pub live_after : Scenario → LiveState → List Entry → List Taken → LiveState
live_after scenario s h [] = s
live_after scenario s h (t ∷ steps) =
    live_after scenario (live_step scenario s h t.entry.cpu t.entry.to t.event).state (h ++ t.entry ∷ []) steps

-- the entry is the step of its processor with its own event, and ends no sooner than any before it
pub record IsLiveStep (scenario : Scenario) (s : LiveState) (h : List Entry) (t : Taken) : Type 0 where
  pub exists : t.entry.cpu < scenario.shape.cpus
  pub named : NamesThread scenario t.event
  pub later : latest h ≤ t.entry.to
  pub stepped : t.entry ≡ (live_step scenario s h t.entry.cpu t.entry.to t.event).entry

abbrev pub AreLiveFrom : Scenario → LiveState → List Entry → List Taken → Type 0
AreLiveFrom scenario s h [] = ⊤
AreLiveFrom scenario s h (t ∷ steps) =
    IsLiveStep scenario s h t
    × AreLiveFrom scenario (live_step scenario s h t.entry.cpu t.entry.to t.event).state (h ++ t.entry ∷ []) steps

-- a live history
unfoldable pub IsLive : Scenario → List Taken → Type 0
IsLive scenario steps = AreLiveFrom scenario (live_opening scenario) [] steps
