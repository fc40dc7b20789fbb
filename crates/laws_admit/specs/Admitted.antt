-- Scenarios whose partitions have granted budgets, and windows in which needs are met.
use Rattle.std.specs.Prelude.{◌≡◌, ℕ, ◌+◌, ◌<◌, ◌≤◌, List, [], ◌∷◌, length, slice_get, Some}
use Rattle.std.specs.List.{AllZip}
use Rattle.aps_model.specs.declared.demand.Demand.{Demand}
use Rattle.aps_model.specs.declared.entry.Entry.{Entry}
use Rattle.aps_model.specs.declared.partition.PartitionRow.{PartitionRow}
use Rattle.aps_model.specs.declared.shape.Shape.{Shape}
use Rattle.aps_model.specs.After.{state_after}
use Rattle.aps_model.specs.Loaded.{finished_ticks, IsSteady, state_of_tick}
use Rattle.aps_model.specs.Partition.{row_or_none}
use Rattle.aps_model.specs.Scenario.{Scenario}
use Rattle.aps_model.specs.SchedulerState.{SchedulerState}
use Rattle.aps_model.specs.Usage.{critical_used, used}
use Rattle.aps_admit.specs.declared.admission.Granted.{Granted}

-- what budgets are granted by is the same in both shapes
pub record IsSameFrame (a b : Shape) : Type 0 where
  pub parts : b.parts ≡ a.parts
  pub cpus : b.cpus ≡ a.cpus
  pub tick : b.tick ≡ a.tick
  pub window : b.window ≡ a.window

-- a partition directly below the root, with what was granted, under the name of the grant
pub record IsGrantedRow (granted : Granted) (row : PartitionRow) : Type 0 where
  pub name : row.name ≡ granted.name
  pub parent : row.parent ≡ 0
  pub budget : row.budget ≡ granted.budget

-- the root, and a partition for each grant, in order
abbrev pub AreGrantedRows : List Granted → List PartitionRow → Type 0
AreGrantedRows grants [] = ⊥
AreGrantedRows grants (root ∷ rows) = AllZip IsGrantedRow grants rows

-- partition p has the budget that was granted, under whatever name and wherever it is in the tree
pub record IsGrantedTo (rows : List PartitionRow) (p : ℕ) (granted : Granted) : Type 0 where
  pub inside : p < length rows
  pub budget : (row_or_none rows p).budget ≡ granted.budget

-- partition `place i` has the budget that was granted to demand i, and there are no more partitions than one for each
-- grant and the root
pub record AreGranted (grants : List Granted) (place : ℕ → ℕ) (rows : List PartitionRow) : Type 0 where
  pub each : (i : ℕ) (granted : Granted) → slice_get grants i ≡ Some granted → IsGrantedTo rows (place i) granted
  pub few : length rows ≤ length grants + 1

-- a scenario with granted budgets
pub record IsAdmitted (shape : Shape) (grants : List Granted) (place : ℕ → ℕ) (scenario : Scenario) : Type 0 where
  pub frame : IsSameFrame shape scenario.shape
  pub rows : AreGranted grants place scenario.partitions

-- no partition spends critical time in the window from tick a on
abbrev pub IsUncriticalFrom : SchedulerState → List Entry → ℕ → Type 0
IsUncriticalFrom s h a = (q : ℕ) → q < length s.rows → critical_used s.shape.tick h q a (a + s.shape.window) ≡ 0

-- the window from tick a on is finished, its ticks are steady and hold no critical time, and the scenario's rows and
-- window stand in it
pub record IsCalmWindow (scenario : Scenario) (h : List Entry) (a : ℕ) : Type 0 where
  pub finished : a + scenario.shape.window ≤ finished_ticks scenario.shape h
  pub steady : IsSteady scenario.shape.tick h (state_after scenario h).changes a (a + scenario.shape.window)
  pub rows : (state_of_tick scenario h a).rows ≡ scenario.partitions
  pub window : (state_of_tick scenario h a).shape.window ≡ scenario.shape.window
  pub uncritical : IsUncriticalFrom (state_of_tick scenario h a) h a

-- the same, where granted budgets stand at tick a
pub record IsAdmittedWindow (shape : Shape) (grants : List Granted) (place : ℕ → ℕ)
    (scenario : Scenario) (h : List Entry) (a : ℕ) : Type 0 where
  pub finished : a + shape.window ≤ finished_ticks scenario.shape h
  pub steady : IsSteady scenario.shape.tick h (state_after scenario h).changes a (a + shape.window)
  pub frame : IsSameFrame shape (state_of_tick scenario h a).shape
  pub rows : AreGranted grants place (state_of_tick scenario h a).rows
  pub uncritical : IsUncriticalFrom (state_of_tick scenario h a) h a

-- in the window from tick a on, partition `place i`, which is that of demand i, uses at least its need
pub record MeetsNeeds (shape : Shape) (demands : List Demand) (place : ℕ → ℕ) (h : List Entry) (a : ℕ) : Type 0 where
  pub each : (i : ℕ) (demand : Demand) → slice_get demands i ≡ Some demand
      → demand.need ≤ used shape.tick h (place i) a (a + shape.window)
