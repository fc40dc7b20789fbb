-- The lists of bills that a window stands for.
use Rattle.std.specs.Prelude.{◌≡◌, ℕ, ◌+◌, ◌-◌, ◌<◌, ◌≤◌, List}
use Rattle.std.specs.List.{All}
use Rattle.aps_window.specs.Bills.{Bill, bills_used, bills_critical}
use Rattle.aps_window.specs.Slots.{slot_at}
use Rattle.aps_window.specs.Window.{Window, slots_of}
use Rattle.aps_model.specs.Limits.{longest_window, most_partitions}

-- no bill is later than the current tick, and for each of the last 400 ticks each partition's slot has the sums of its
-- bills in that tick. Bills of earlier ticks don't show: a window stands for each list that differs in these alone.
pub record StandsFor (window : Window) (bills : List Bill) : Type 0 where
  pub past : All (λ bill. bill.tick ≤ window.tick) bills
  pub used : (p age : ℕ) → p < most_partitions → age < longest_window
      → (slot_at (slots_of window p) age).billed ≡ bills_used bills p (window.tick - age) (window.tick + 1 - age)
  pub critical : (p age : ℕ) → p < most_partitions → age < longest_window
      → (slot_at (slots_of window p) age).critical ≡ bills_critical bills p (window.tick - age) (window.tick + 1 - age)
