-- What stays true of the partition rows and of the shape.
use lib.Chars.{codes}
use Rattle.std.specs.Prelude.{◌≡◌, ℕ, ◌<◌, ◌≤◌, List, length, map}
use Rattle.std.specs.List.{IsDistinct}
use Rattle.std.specs.Str.{bytes_eq}
use Rattle.aps_model.specs.Limits.{most_partitions}
use Rattle.aps_model.specs.declared.partition.PartitionRow.{PartitionRow}
use Rattle.laws_runs.specs.Sizes.{IsSameSizes}
use Rattle.aps_model.specs.Partition.{AreRows, row_or_none}
use Rattle.aps_model.specs.Scenario.{Scenario}
use Rattle.aps_model.specs.SchedulerState.{SchedulerState}
use Rattle.aps_model.specs.Shape.{IsShape}

-- 1 to 32 rows with distinct names below the row `System`
pub record IsNamedTree (rows : List PartitionRow) : Type 0 where
  pub some : 1 ≤ length rows
  pub few : length rows ≤ most_partitions
  pub root_name : (row_or_none rows 0).name ≡ codes "System"
  pub root_parent : (row_or_none rows 0).parent ≡ 0
  pub parents : (i : ℕ) → 0 < i → i < length rows → (row_or_none rows i).parent < i
  pub names : IsDistinct bytes_eq (map (λ (row : PartitionRow). row.name) rows)

-- rows and shape of a state are in order: budgets sum to the parts, each is at most its maximum, each maximum at most
-- the parts; of the shape the sizes are the scenario's
pub record AreInOrder (scenario : Scenario) (s : SchedulerState) : Type 0 where
  pub named : IsNamedTree s.rows
  pub funded : AreRows scenario.shape.parts s.rows
  pub shape : IsShape s.shape
  pub sizes : IsSameSizes scenario.shape s.shape

-- no row has gone, and none has another name or parent
pub record AreRowsKept (rows later : List PartitionRow) : Type 0 where
  pub count : length rows ≤ length later
  pub name : (i : ℕ) → i < length rows → (row_or_none later i).name ≡ (row_or_none rows i).name
  pub parent : (i : ℕ) → i < length rows → (row_or_none later i).parent ≡ (row_or_none rows i).parent
