-- By how much a partition exceeds its budget in any ticks without a change, whoever has work.
use Rattle.std.specs.Prelude.{ℕ, ◌+◌, ◌-◌, ◌*◌, ◌<◌, ◌≤◌, List, length, nat_eq, if◌then◌else◌, IsFalse}
use Rattle.std.specs.List.{sum_by, range_with_len}
use Rattle.aps_model.specs.declared.shape.Shape.{Shape}
use Rattle.aps_model.specs.declared.partition.PartitionRow.{PartitionRow}
use Rattle.aps_model.specs.declared.entry.Entry.{Entry}
use Rattle.aps_model.specs.After.{state_after}
use Rattle.aps_model.specs.Loaded.{finished_ticks, has_change, state_of_tick}
use Rattle.aps_model.specs.Partition.{row_or_none}
use Rattle.aps_model.specs.Scenario.{Scenario}
use Rattle.aps_model.specs.Shape.{whole}
use Rattle.aps_model.specs.Usage.{critical_used, used}
use Rattle.laws_bounds.specs.FreeTime.{free_used, idle_time}

-- the partition's critical time in ticks a to b-1, and one tick for each processor where it has a budget
abbrev pub margin : Shape → List PartitionRow → List Entry → ℕ → ℕ → ℕ → ℕ
margin shape rows h a b p =
    critical_used shape.tick h p a b + (if nat_eq (row_or_none rows p).budget 0 then 0 else shape.cpus * shape.tick)

-- by how much it may exceed its budget in ticks a to b-1: its margin, and its free time
abbrev pub leeway : Scenario → Shape → List PartitionRow → List Entry → ℕ → ℕ → ℕ → ℕ
leeway scenario shape rows h a b p = margin shape rows h a b p + free_used scenario shape.tick h p a b

-- the margins, and the leeways, of all other partitions together
abbrev pub others_margin : Shape → List PartitionRow → List Entry → ℕ → ℕ → ℕ → ℕ
others_margin shape rows h a b p =
    sum_by (λ q. if nat_eq q p then 0 else margin shape rows h a b q) (range_with_len 0 (length rows))

abbrev pub others_leeway : Scenario → Shape → List PartitionRow → List Entry → ℕ → ℕ → ℕ → ℕ
others_leeway scenario shape rows h a b p =
    sum_by (λ q. if nat_eq q p then 0 else leeway scenario shape rows h a b q) (range_with_len 0 (length rows))

-- In ticks a to b-1 the partition's usage exceeds its budget by at most its leeway, and by less where it has a budget.
-- It is at least what is left of the time of all processors when the others have had their budgets and their leeways,
-- and nobody the idle time.
pub record IsWithinExcess (scenario : Scenario) (shape : Shape) (rows : List PartitionRow) (h : List Entry) (a b p : ℕ) : Type 0 where
  pub above : shape.parts * used shape.tick h p a b
      ≤ (row_or_none rows p).budget * whole shape + shape.parts * leeway scenario shape rows h a b p
  pub strictly : 0 < (row_or_none rows p).budget → shape.parts * used shape.tick h p a b
      < (row_or_none rows p).budget * whole shape + shape.parts * leeway scenario shape rows h a b p
  pub below : shape.parts * (shape.cpus * ((b - a) * shape.tick))
      ≤ shape.parts * used shape.tick h p a b + (shape.parts - (row_or_none rows p).budget) * whole shape
      + shape.parts * (others_leeway scenario shape rows h a b p + idle_time shape.tick h a b)

-- in all finished ticks without a change, at most as many as a window has, by the rows and the window of their first
abbrev pub KeepsExcess : Scenario → List Entry → Type 0
KeepsExcess scenario h =
    (a b p : ℕ)
    → a ≤ b
    → b ≤ a + (state_of_tick scenario h a).shape.window
    → b ≤ finished_ticks scenario.shape h
    → IsFalse (has_change (state_after scenario h).changes a b)
    → p < length (state_of_tick scenario h a).rows
    → IsWithinExcess scenario (state_of_tick scenario h a).shape (state_of_tick scenario h a).rows h a b p
