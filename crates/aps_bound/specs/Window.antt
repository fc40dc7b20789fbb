-- A window that slides over entries in order of ticks.
use Rattle.std.specs.Prelude.{ℕ, ◌≤◌, List}
use Rattle.aps_model.specs.declared.entry.Entry.{Entry}
use Rattle.aps_bound.specs.declared.window.Window.{Window}
use Rattle.aps_bound.specs.Cursor.{IsCursor}
use Rattle.aps_model.specs.Sums.{IsUsage}

-- its usage is that of its ticks, and each end stands before what its next tick can hold
pub record IsUsageWindow (tick : ℕ) (entries : List Entry) (window : Window) : Type 0 where
  pub forward : window.first.tick ≤ window.end.tick
  pub usage : IsUsage tick window.first.tick window.end.tick entries window.usage
  pub first : IsCursor tick entries window.first
  pub end : IsCursor tick entries window.end
