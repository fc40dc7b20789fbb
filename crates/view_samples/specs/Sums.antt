-- What windows of ticks have of the entries of a history.
use Rattle.std.specs.Prelude.{◌≡◌, ℕ, ◌+◌, ◌-◌, ◌/◌, ◌<◌, ◌≤◌, ◌++◌, List, [], ◌∷◌, Bool, Some}
use Rattle.aps_model.specs.declared.entry.Entry.{Entry}
use Rattle.aps_model.specs.declared.shape.Shape.{Shape}
use Rattle.aps_model.specs.Limits.{most_time_of_tick}
use Rattle.aps_model.specs.Scenario.{Scenario}
use Rattle.aps_window.specs.Entries.{IsInOneTick}
use Rattle.aps_window.specs.Window.{Window, billed_on}
use Rattle.aps_core.specs.Counts.{Counts}
use Rattle.laws_bounds.specs.Kinds.{is_free, last_kind}
use Rattle.view_replay.specs.Shape.{shape_with}
use Rattle.view_samples.specs.declared.sums.Sums.{Sums}

-- the entry with another mark
abbrev pub entry_marked : Entry → Bool → Entry
entry_marked e mark = record e { critical = mark }

-- the entries, each critical where it ran in free time
abbrev pub freed_from : Scenario → List Entry → List Entry → List Entry
freed_from scenario before [] = []
freed_from scenario before (e ∷ es) = entry_marked e (is_free (last_kind scenario before e.cpu)) ∷ freed_from scenario (before ++ e ∷ []) es

unfoldable pub freed : Scenario → List Entry → List Entry
freed scenario h = freed_from scenario [] h

-- the time of the entry has room in the tick at which the window stands
pub record HasRoomInTick (window : Window) (tick : ℕ) (e : Entry) : Type 0 where
  pub now : window.tick ≡ tick
  pub fits : (p : ℕ) → e.billed ≡ Some p → e.from < e.to → billed_on window p tick + (e.to - e.from) ≤ most_time_of_tick

-- the window has the time of the entry too, with this mark
abbrev pub GoesOnByMarked : Window → ℕ → Entry → Bool → Window → Type 0
GoesOnByMarked before tick e mark after =
    (shape : Shape) (h : List Entry) → Counts shape h tick before → IsInOneTick shape.tick e → (e.from < e.to → e.from / shape.tick ≡ tick)
    → Counts shape (h ++ entry_marked e mark ∷ []) tick after

-- the windows stand at tick j, count as many ticks, and have the bills of these entries
pub record AreWindowSums (scenario : Scenario) (h : List Entry) (j window : ℕ) (sums : Sums) : Type 0 where
  pub all : Counts (shape_with scenario window) h j sums.all
  pub free : Counts (shape_with scenario window) (freed scenario h) j sums.free
  pub span : sums.span ≡ window
