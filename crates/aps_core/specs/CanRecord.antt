use Rattle.std.specs.Prelude.{◌≡◌, ◌≤◌, ◌++◌, List, length, All}
use Rattle.aps_model.specs.declared.command.Change.{Change}
use Rattle.aps_model.specs.declared.command.Reply.{Reply}
use Rattle.aps_model.specs.History.{History}
use Rattle.aps_model.specs.Limits.{most_partitions}
use Rattle.aps_model.specs.Partition.{IsRow}
use Rattle.aps_model.specs.SchedulerState.{SchedulerState}
use Rattle.aps_model.specs.Shape.{IsShape}

-- the history can go on to what the state has recorded: replies and changes only grew, and have room; no row has gone
pub record CanRecord (kept : History) (state : SchedulerState) : Type 0 where
  pub replies : (more : List Reply) × (state.replies ≡ kept.replies ++ more)
  pub changes : (more : List Change) × (state.changes ≡ kept.changes ++ more)
  pub reply_room : length state.replies ≤ kept.room.replies
  pub change_room : length state.changes ≤ kept.room.changes
  pub no_fewer : length kept.rows ≤ length state.rows
  pub few_rows : length state.rows ≤ most_partitions
  pub rows : All IsRow state.rows
  pub shape : IsShape state.shape

-- the history has what the state has recorded
pub record HasTold (kept : History) (state : SchedulerState) : Type 0 where
  pub replies : state.replies ≡ kept.replies
  pub changes : state.changes ≡ kept.changes
  pub rows : state.rows ≡ kept.rows
  pub shape : state.shape ≡ kept.shape

-- the history with all of that
abbrev pub with_told : History → SchedulerState → History
with_told kept state = record kept {
  replies = state.replies;
  changes = state.changes;
  rows = state.rows;
  shape = state.shape;
}
