use Rattle.std.specs.Prelude.{◌≡◌, ℕ, ◌+◌, ◌*◌, ◌++◌, List, [], ◌∷◌, length, nat_lt, Option}
use Rattle.std.specs.List.{count_by}
use Rattle.aps_model.specs.declared.entry.End.{End}
use Rattle.aps_model.specs.declared.entry.Entry.{Entry}
use Rattle.aps_model.specs.declared.entry.Order.{Order}
use Rattle.aps_model.specs.declared.partition.PartitionRow.{PartitionRow}
use Rattle.aps_model.specs.After.{end_of, is_at_horizon, or_limit, over_by, state_after}
use Rattle.aps_model.specs.History.{History, Rooms}
use Rattle.aps_model.specs.Recorded.{recorded}
use Rattle.aps_model.specs.Scenario.{Scenario}
use Rattle.aps_model.specs.SchedulerState.{SchedulerState}
use Rattle.laws_runs.specs.Runs.{finished}

-- what a run was set up with
pub record Setup : Type 0 where
  pub scenario : Scenario
  pub order : Order
  pub limit : ℕ

-- a run under way: its setup, which nothing changes, and its entries so far
pub record Run : Type 0 where
  pub setup : Setup
  pub entries : List Entry

-- the changes that a run can make: one by each command, and one cancel of each critical budget that the scenario
-- or a command gives
abbrev pub most_changes : Scenario → ℕ
most_changes scenario =
    2 * length scenario.commands + count_by (λ (row : PartitionRow). nat_lt 0 row.critical) scenario.partitions

-- for what a run is given room
abbrev pub rooms_of : Setup → Rooms
rooms_of setup = record {
  entries = setup.limit;
  replies = length setup.scenario.commands;
  changes = most_changes setup.scenario;
}

-- the state that the entries leave
abbrev pub state_of_run : Run → SchedulerState
state_of_run run = state_after run.setup.scenario run.entries

-- the end of the run, if it has come
abbrev pub end_of_run : Run → Option End
end_of_run run = end_of run.setup.scenario run.setup.limit run.entries

-- all that the run has recorded, with its end
abbrev pub history_of_run : Run → History
history_of_run run = recorded run.setup.scenario run.setup.limit (rooms_of run.setup) run.entries

-- the run after the steps of the lowest processor that has the turn, until it has ended
abbrev pub finished_run : Run → Run
finished_run run = record run { entries = finished run.setup.scenario run.setup.limit run.entries }

-- the same run, further on
abbrev pub IsLater : Run → Run → Type 0
IsLater run later = (rest : List Entry) × (later ≡ record run { entries = run.entries ++ rest })

-- the history with one entry more, which leaves this state and perhaps a partition for which the run ends; with all that
-- the state has recorded, and with the end that comes by it
abbrev pub with_last : History → ℕ → Option ℕ → SchedulerState → Entry → History
with_last kept limit reboot state e = record kept {
  entries = kept.entries ++ e ∷ [];
  replies = state.replies;
  changes = state.changes;
  rows = state.rows;
  shape = state.shape;
  end = or_limit (over_by reboot (is_at_horizon state (kept.entries ++ e ∷ []))) limit (length (kept.entries ++ e ∷ []));
}
