-- A window as plain data, and what each call makes of it.
use Rattle.std.specs.Prelude.{ℕ, ◌+◌, ◌-◌, List, [], Bool, map, replicate, slice_index_or, slice_set, zero, suc}
use Rattle.aps_window.specs.declared.slot.Slot.{Slot}
use Rattle.aps_window.specs.Slots.{no_slots, slot_at, slots_billed, slots_rotated, slots_total}
use Rattle.aps_model.specs.Limits.{most_partitions}

-- the current tick, how many ticks count, and the slots of each partition, the current tick first
pub record Window : Type 0 where
  pub tick : ℕ
  pub span : ℕ
  pub slots : List (List Slot)

-- the slots of partition p
abbrev pub slots_of : Window → ℕ → List Slot
slots_of window p = slice_index_or window.slots p []

-- what partition p was billed in a tick
abbrev pub billed_on : Window → ℕ → ℕ → ℕ
billed_on window p tick = (slot_at (slots_of window p) (window.tick - tick)).billed

-- the sums of partition p over the ticks that count
abbrev pub total_of : Window → ℕ → Slot
total_of window p = slots_total window.span (slots_of window p)

-- the window at tick 0, with no bills
abbrev pub opened : ℕ → Window
opened span = record { tick = 0; span = span; slots = replicate most_partitions no_slots }

-- the window with a bill more
abbrev pub window_billed : Window → ℕ → ℕ → ℕ → Bool → Window
window_billed window p tick ns critical = record window {
  slots = slice_set window.slots p (slots_billed (slots_of window p) (window.tick - tick) ns critical);
}

-- the window one tick later
abbrev pub rotated : Window → Window
rotated window = record window { tick = window.tick + 1; slots = map slots_rotated window.slots }

-- the window so many ticks later
abbrev pub advanced : ℕ → Window → Window
advanced zero window = window
advanced (suc ticks) window = rotated (advanced ticks window)

-- the window where another number of ticks counts
abbrev pub resized : ℕ → Window → Window
resized span window = record window { span = span }
