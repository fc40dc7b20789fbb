-- Windows that begin at any moment, also inside a tick. What is used between two moments is what is used in ticks of one
-- nanosecond.
use Rattle.std.specs.Prelude.{ℕ, ◌+◌, ◌-◌, ◌*◌, ◌<◌, ◌≤◌, List, length, max, min, nat_eq, if◌then◌else◌, IsFalse}
use Rattle.std.specs.List.{fold, range_with_len, sum_by}
use Rattle.aps_model.specs.declared.entry.Entry.{Entry}
use Rattle.aps_model.specs.declared.partition.PartitionRow.{PartitionRow}
use Rattle.aps_model.specs.declared.shape.Shape.{Shape}
use Rattle.aps_model.specs.After.{state_after}
use Rattle.aps_model.specs.Loaded.{finished_ticks, has_change, state_of_tick}
use Rattle.aps_model.specs.Partition.{row_or_none}
use Rattle.aps_model.specs.Scenario.{Scenario}
use Rattle.aps_model.specs.Shape.{whole}
use Rattle.aps_model.specs.Usage.{critical_used, used}
use Rattle.laws_bounds.specs.FreeTime.{free_used, idle_time}

-- what is billed to the partition between two moments, and for how long processors stand idle between them
abbrev pub used_between : List Entry → ℕ → ℕ → ℕ → ℕ
used_between h x y p = used 1 h p x y

abbrev pub idle_between : List Entry → ℕ → ℕ → ℕ
idle_between h x y = idle_time 1 h x y

-- its critical time and its free time between them, and one tick for each processor where it has a budget
abbrev pub leeway_between : Scenario → Shape → List PartitionRow → List Entry → ℕ → ℕ → ℕ → ℕ
leeway_between scenario shape rows h x y p =
    critical_used 1 h p x y
    + (if nat_eq (row_or_none rows p).budget 0 then 0 else shape.cpus * shape.tick)
    + free_used scenario 1 h p x y

abbrev pub others_leeway_between : Scenario → Shape → List PartitionRow → List Entry → ℕ → ℕ → ℕ → ℕ
others_leeway_between scenario shape rows h x y p =
    sum_by (λ q. if nat_eq q p then 0 else leeway_between scenario shape rows h x y q) (range_with_len 0 (length rows))

-- What a window may have more that begins so late in a tick. Take any number of the processors: it is the lesser of what
-- the others run in the window's last tick, which it has in part, and of what these have run in its first. The greatest
-- of these counts.
abbrev pub leap : ℕ → ℕ → ℕ → ℕ
leap cpus tick late =
    fold (λ most k. max most (min ((cpus - k) * late) (k * (tick - late)))) 0 (range_with_len 0 (cpus + 1))

-- between moments x and y, a window apart, the partition's usage exceeds its budget by at most its leeway and a leap, and
-- falls short of it by at most the leeways of the others, the idle time, and one leap
pub record IsWithinBetween (scenario : Scenario) (shape : Shape) (rows : List PartitionRow) (h : List Entry)
    (x y late p : ℕ) : Type 0 where
  pub above : shape.parts * used_between h x y p
      ≤ (row_or_none rows p).budget * whole shape
      + shape.parts * (leeway_between scenario shape rows h x y p
      + (if nat_eq (row_or_none rows p).budget 0 then 0 else leap shape.cpus shape.tick late))
  pub below : (row_or_none rows p).budget * whole shape
      ≤ shape.parts * used_between h x y p
      + shape.parts * (others_leeway_between scenario shape rows h x y p + idle_between h x y + leap shape.cpus shape.tick late)

-- in the window that begins so late in tick a
abbrev pub IsWithinLate : Scenario → Shape → List PartitionRow → List Entry → ℕ → ℕ → ℕ → Type 0
IsWithinLate scenario shape rows h a late p =
    IsWithinBetween scenario shape rows h (a * shape.tick + late) ((a + shape.window) * shape.tick + late) late p

-- in each such window, where its ticks are finished and have no change, by the rows and the
-- window of tick a
abbrev pub KeepsAnyMoment : Scenario → List Entry → Type 0
KeepsAnyMoment scenario h =
    (a late p : ℕ)
    → late < scenario.shape.tick
    → a + (state_of_tick scenario h a).shape.window + 1 ≤ finished_ticks scenario.shape h
    → IsFalse (has_change (state_after scenario h).changes a (a + (state_of_tick scenario h a).shape.window + 1))
    → p < length (state_of_tick scenario h a).rows
    → IsWithinLate scenario (state_of_tick scenario h a).shape (state_of_tick scenario h a).rows h a late p
