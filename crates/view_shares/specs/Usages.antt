-- The window in which the time that partitions use is counted.
use Rattle.std.specs.Prelude.{◌≡◌, ℕ, ◌+◌, ◌-◌, ◌/◌, ◌≤◌, ◌++◌, List, [], ◌∷◌, Some}
use Rattle.aps_model.specs.Limits.{most_ticks, most_time_of_tick}
use Rattle.aps_model.specs.declared.entry.Entry.{Entry}
use Rattle.aps_model.specs.declared.shape.Shape.{Shape}
use Rattle.aps_model.specs.Scenario.{Scenario}
use Rattle.laws_runs.specs.Moments.{moment}
use Rattle.aps_window.specs.Entries.{IsInOneTick}
use Rattle.aps_window.specs.Window.{Window, billed_on, resized}
use Rattle.aps_core.specs.Counts.{Counts}
use Rattle.aps_core.specs.Run.{Run, state_of_run}
use Rattle.view_replay.specs.Shape.{shape_with}
use Rattle.view_shares.specs.declared.usages.Usages.{Usages}

-- the window stands at the tick of the last entry's end, and has the bills of these entries
abbrev pub AreUsagesCounted : Scenario → List Entry → Usages → Type 0
AreUsagesCounted scenario h usages = Counts (shape_with scenario usages.span) h (moment h / scenario.shape.tick) usages.window

-- the same, of the entries of a run, and as many ticks count as the shape says that they leave
pub record AreUsagesUpTo (run : Run) (usages : Usages) : Type 0 where
  pub counted : AreUsagesCounted run.setup.scenario run.entries usages
  pub span : usages.span ≡ (state_of_run run).shape.window
  pub tick : (state_of_run run).shape.tick ≡ run.setup.scenario.shape.tick

-- the same bills, where the last `span` ticks count
abbrev pub for_span : ℕ → Usages → Usages
for_span span usages = record { window = resized span usages.window; span = span }

-- the entry ran in the window's tick or the one before, and its time has room there
pub record HasRoomInWindow (tick : ℕ) (window : Window) (e : Entry) : Type 0 where
  pub early : window.tick ≤ most_ticks
  pub past : e.from / tick ≤ window.tick
  pub recent : window.tick ≤ e.from / tick + 1
  pub fits : (p : ℕ) → e.billed ≡ Some p → billed_on window p (e.from / tick) + (e.to - e.from) ≤ most_time_of_tick

-- the window has the time of the entry too
abbrev pub GoesOnBy : ℕ → Window → Entry → Window → Type 0
GoesOnBy tick before e after =
    (shape : Shape) (h : List Entry) (j : ℕ) → tick ≡ shape.tick → IsInOneTick tick e → Counts shape h j before
    → Counts shape (h ++ e ∷ []) j after
