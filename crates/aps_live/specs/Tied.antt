-- What a window has to do with the entries of a history.
use Rattle.std.specs.Prelude.{◌≡◌, ℕ, ◌+◌, ◌<◌, ◌≤◌, List}
use Rattle.aps_model.specs.Limits.{longest_window, most_time_of_tick}
use Rattle.aps_model.specs.declared.entry.Entry.{Entry}
use Rattle.aps_model.specs.Usage.{critical_used, used}
use Rattle.aps_window.specs.Bills.{Bill, bills_critical, bills_used}
use Rattle.aps_window.specs.StandsFor.{StandsFor}
use Rattle.aps_window.specs.Window.{Window}

-- the window stands for bills that give each partition what the entries do, in all ticks that are among the last 400
pub record IsTied (tick : ℕ) (window : Window) (h : List Entry) : Type 0 where
  pub bills : List Bill
  pub stands : StandsFor window bills
  pub used : (p a b : ℕ) → window.tick < a + longest_window → bills_used bills p a b ≡ used tick h p a b
  pub critical : (p a b : ℕ) → window.tick < a + longest_window → bills_critical bills p a b ≡ critical_used tick h p a b

-- in no tick is a partition billed more than the time of 16 processors in the longest tick
abbrev pub FitsTicks : ℕ → List Entry → Type 0
FitsTicks tick h = (p k : ℕ) → used tick h p k (k + 1) ≤ most_time_of_tick
