-- The window of ticks that is kept beside the entries.
use Rattle.std.specs.Prelude.{◌≡◌, ℕ, ◌+◌, ◌-◌, ◌/◌, ◌≤◌, List, length, map, Some}
use Rattle.std.specs.List.{range_with_len}
use Rattle.aps_model.specs.Limits.{longest_window, most_partitions, most_ticks, most_time_of_tick}
use Rattle.aps_model.specs.declared.entry.Entry.{Entry}
use Rattle.aps_model.specs.declared.merit.PartFacts.{PartFacts}
use Rattle.aps_model.specs.declared.partition.PartitionRow.{PartitionRow}
use Rattle.aps_model.specs.declared.shape.Shape.{Shape}
use Rattle.aps_model.specs.Partition.{row_or_none}
use Rattle.aps_window.specs.Entries.{AreInOneTick, IsInOneTick, bills_of}
use Rattle.aps_window.specs.StandsFor.{StandsFor}
use Rattle.aps_window.specs.Whole.{IsWholeWindow}
use Rattle.aps_window.specs.Window.{Window, billed_on, total_of}
use Rattle.aps_core.specs.Part.{part_of}

-- the window stands at tick j, counts as many ticks as the shape says, and has the bills of these entries, of which none
-- crosses a boundary
pub record Counts (shape : Shape) (h : List Entry) (j : ℕ) (window : Window) : Type 0 where
  pub tick : window.tick ≡ j
  pub span : window.span ≡ shape.window
  pub short : shape.window ≤ longest_window
  pub stands : StandsFor window (bills_of shape.tick h)
  pub whole : IsWholeWindow window
  pub each : AreInOneTick shape.tick h

-- the partition by its row and its totals
abbrev pub part_in : Shape → List PartitionRow → Window → ℕ → PartFacts
part_in shape rows window p = part_of shape (row_or_none rows p) (total_of window p).billed (total_of window p).critical

-- each partition
abbrev pub parts_in : Shape → List PartitionRow → Window → List PartFacts
parts_in shape rows window = map (part_in shape rows window) (range_with_len 0 (length rows))

-- the total of each of 32 partitions, whether there is one or not
abbrev pub used_in : Window → List ℕ
used_in window = map (λ p. (total_of window p).billed) (range_with_len 0 most_partitions)

-- and what of it is critical
abbrev pub critical_in : Window → List ℕ
critical_in window = map (λ p. (total_of window p).critical) (range_with_len 0 most_partitions)

-- there is room for that: the entry crosses no boundary, it begins in the window's tick or the one before, and no tick gets too
-- much of a partition
pub record CanBill (tick : ℕ) (window : Window) (e : Entry) : Type 0 where
  pub whole : IsInOneTick tick e
  pub past : e.from / tick ≤ window.tick
  pub recent : window.tick ≤ e.from / tick + 1
  pub early : window.tick ≤ most_ticks
  pub fits : (p : ℕ) → e.billed ≡ Some p → billed_on window p (e.from / tick) + (e.to - e.from) ≤ most_time_of_tick
