-- What stands after the entries up to a moment.
use Rattle.std.specs.Prelude.{◌≡◌, ℕ, ◌+◌, ◌-◌, ◌/◌, ◌≤◌, List, length, All, Bool, ⊤}
use Rattle.aps_model.specs.declared.entry.Entry.{Entry}
use Rattle.aps_model.specs.declared.merit.Merit.{Merit}
use Rattle.aps_model.specs.declared.merit.PartFacts.{PartFacts}
use Rattle.aps_model.specs.declared.state.State.{State}
use Rattle.aps_model.specs.declared.state.State.TheVariants.{Sleeping}
use Rattle.aps_model.specs.declared.usage.Usage.{Usage}
use Rattle.aps_model.specs.After.{state_after}
use Rattle.aps_model.specs.Budget.{all_parts, part_at}
use Rattle.aps_model.specs.Flag.{merit_now}
use Rattle.aps_model.specs.Inherit.{facts_of}
use Rattle.aps_model.specs.Merit.{is_candidate}
use Rattle.aps_model.specs.Scenario.{Scenario}
use Rattle.aps_model.specs.SchedulerState.{SchedulerState, thread_at}
use Rattle.aps_model.specs.Sums.{IsUsage}
use Rattle.laws_runs.specs.Ids.{IsInRange}
use Rattle.laws_runs.specs.Moments.{moment}
use Rattle.aps_core.specs.Run.{Run}
use Rattle.aps_core.specs.Small.{IsSmall}
use Rattle.view_lives.specs.Whole.{until}
use Rattle.view_explain.specs.Ties.{Ties, ties_of}
use Rattle.aps_model.specs.Limits.{last_tick, most_entries}

-- a scenario, and the entries of its run so far
pub record Past : Type 0 where
  pub scenario : Scenario
  pub entries : List Entry

-- the entries of a history that end at this moment or earlier
abbrev pub past_at : Scenario → List Entry → ℕ → Past
past_at scenario h at = record { scenario = scenario; entries = until at h }

-- those of a core
abbrev pub past_of : Run → Past
past_of run = record { scenario = run.setup.scenario; entries = run.entries }

abbrev pub state_of_past : Past → SchedulerState
state_of_past past = state_after past.scenario past.entries

-- the tick in which the last entry ends
abbrev pub tick_in : Past → ℕ
tick_in past = moment past.entries / (state_of_past past).shape.tick

-- how the partitions stand in the window of that tick
abbrev pub parts_of_past : Past → List PartFacts
parts_of_past past = all_parts (state_of_past past).shape (state_of_past past).rows past.entries (tick_in past)

abbrev pub part_of_past : Past → ℕ → PartFacts
part_of_past past p = part_at (parts_of_past past) p

-- the merit that a thread has now, ready or not
abbrev pub merit_in : Past → ℕ → Merit
merit_in past x = merit_now (state_of_past past) (parts_of_past past) x

-- a thread would be a candidate
abbrev pub would_be_candidate : Past → ℕ → Bool
would_be_candidate past x = is_candidate (facts_of (state_of_past past) x) (part_of_past past (facts_of (state_of_past past) x).partition)

-- the latest moment that a sleeper waits for, twice that of the longest run
abbrev pub last_wake : ℕ
last_wake = 20000000000000

-- a sleeper's moment isn't so late that it couldn't be rounded up
abbrev pub WakesAt : State → Type 0
WakesAt (Sleeping until) = until ≤ last_wake
WakesAt st = ⊤

abbrev pub WakesSoon : SchedulerState → Type 0
WakesSoon s = (x : ℕ) → WakesAt (thread_at s x).state

-- these are the ties, the tick, the usage in its window and the parts of the past
pub record IsSceneOfPast (past : Past) (knots : Ties) (j : ℕ) (billed : Usage) (facts : List PartFacts) : Type 0 where
  pub tied : knots ≡ ties_of (state_of_past past)
  pub tick : j ≡ tick_in past
  pub early : j ≤ last_tick
  pub few : length past.entries ≤ most_entries
  pub usage : IsUsage (state_of_past past).shape.tick (j + 1 - (state_of_past past).shape.window) (j + 1) past.entries billed
  pub parts : facts ≡ parts_of_past past
  pub small : All IsSmall facts
  pub wakes : WakesSoon (state_of_past past)
  pub known : IsInRange past.scenario (state_of_past past)
