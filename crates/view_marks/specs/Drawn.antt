-- What is drawn of a history.
use Rattle.std.specs.Prelude.{◌≡◌, ◌≤◌, List, length}
use Rattle.aps_model.specs.declared.entry.Entry.{Entry}
use Rattle.aps_model.specs.declared.partition.PartitionRow.{PartitionRow}
use Rattle.aps_model.specs.After.{state_after}
use Rattle.aps_model.specs.Limits.{most_partitions}
use Rattle.aps_model.specs.Scenario.{Scenario}
use Rattle.view_marks.specs.declared.alteration.Alteration.{Alteration}
use Rattle.view_marks.specs.declared.bar.Bar.{Bar}
use Rattle.view_marks.specs.Alteration.{alterations_of}
use Rattle.view_marks.specs.Bar.{AreLanes}

pub record Drawn : Type 0 where
  pub lanes : List (List Bar)
  pub alterations : List Alteration
  pub rows : List PartitionRow

-- this is what each processor ran in the history, what was altered, and the rows that stand last
pub record IsDrawnHistory (scenario : Scenario) (h : List Entry) (drawn : Drawn) : Type 0 where
  pub lanes : AreLanes scenario h drawn.lanes
  pub alterations : drawn.alterations ≡ alterations_of scenario h
  pub rows : drawn.rows ≡ (state_after scenario h).rows
  pub few_rows : length drawn.rows ≤ most_partitions
