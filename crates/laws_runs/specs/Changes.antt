-- How the lists of changes and replies grow.
use Rattle.std.specs.Prelude.{◌≡◌, ℕ, ◌+◌, ◌*◌, ◌/◌, ◌≤◌, ◌++◌, List, length, All, nat_lt}
use Rattle.std.specs.List.{AllPairs, count_by}
use Rattle.aps_model.specs.declared.command.Change.{Change}
use Rattle.aps_model.specs.declared.command.Reply.{Reply}
use Rattle.aps_model.specs.declared.entry.Entry.{Entry}
use Rattle.aps_model.specs.declared.partition.PartitionRow.{PartitionRow}
use Rattle.laws_runs.specs.Moments.{moment}
use Rattle.aps_model.specs.Scenario.{Scenario}
use Rattle.aps_model.specs.SchedulerState.{SchedulerState}

-- replies and changes are those from before, and more
pub record OnlyGrow (s t : SchedulerState) : Type 0 where
  pub replies : (more : List Reply) × (t.replies ≡ s.replies ++ more)
  pub changes : (more : List Change) × (t.changes ≡ s.changes ++ more)

-- the ticks of the changes never fall, and none is later than the tick of the last moment
pub record AreInTicks (tick : ℕ) (h : List Entry) (changes : List Change) : Type 0 where
  pub rising : AllPairs (λ (a b : Change). a.tick ≤ b.tick) changes
  pub past : All (λ (change : Change). change.tick ≤ moment h / tick) changes

-- how many rows have a critical budget
abbrev pub open_rows : List PartitionRow → ℕ
open_rows rows = count_by (λ (row : PartitionRow). nat_lt 0 row.critical) rows

-- each reply makes room for two changes, and so does each critical budget at the start for one
abbrev pub HasRoomForChanges : Scenario → SchedulerState → Type 0
HasRoomForChanges scenario s = length s.changes + open_rows s.rows ≤ 2 * length s.replies + open_rows scenario.partitions
