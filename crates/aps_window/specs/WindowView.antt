-- What a window's fields stand for, and what they keep.
use Rattle.std.specs.Prelude.{◌≡◌, ◌≤◌, drop, length, map}
use Rattle.std.specs.List.{All}
use Rattle.aps_window.specs.declared.window.Window.TheInside.{Inside}
use Rattle.aps_window.specs.Account.{IsAccount, IsUnused, slots_in}
use Rattle.aps_window.specs.Window.{Window}
use Rattle.aps_model.specs.Limits.{last_tick, longest_window, most_partitions, shortest_window}

abbrev pub window_of : Inside → Window
window_of w = record { tick = w.tick; span = w.span; slots = map slots_in w.accounts.items }

-- 32 accounts, whose totals are over the ticks that count, and of which those past the ones in use have no bill
pub record Keeps (w : Inside) : Type 0 where
  pub count : length w.accounts.items ≡ most_partitions
  pub least : shortest_window ≤ w.span
  pub most : w.span ≤ longest_window
  pub tick : w.tick ≤ last_tick
  pub accounts : All (IsAccount w.span) w.accounts.items
  pub few : w.in_use ≤ most_partitions
  pub rest : All IsUnused (drop w.in_use w.accounts.items)
