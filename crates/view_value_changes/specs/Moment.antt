-- How everything stands at a moment, as the values of the signals of a dump.
use Rattle.std.specs.Prelude.{ℕ, ◌*◌, ◌/◌, ◌++◌, List, [], ◌∷◌, length, false, nat_lt, slice_index_or, Option, Some, None, if◌then◌else◌}
use Rattle.std.specs.List.{flat_map, range_with_len}
use Rattle.aps_model.specs.declared.entry.Entry.{Entry}
use Rattle.aps_model.specs.declared.partition.PartitionRow.{PartitionRow}
use Rattle.aps_model.specs.declared.shape.Shape.{Shape}
use Rattle.aps_model.specs.declared.state.Pick.{Pick}
use Rattle.aps_model.specs.Budget.{in_budget}
use Rattle.aps_model.specs.Partition.{row_or_none}
use Rattle.aps_model.specs.SchedulerState.{SchedulerState, cpu_at, thread_at}
use Rattle.aps_model.specs.Shape.{whole}
use Rattle.aps_model.specs.Usage.{window_critical, window_used}
use Rattle.laws_runs.specs.Moments.{moment}
use Rattle.aps_core.specs.Run.{Run, state_of_run}
use Rattle.view_value_changes.specs.declared.told.Told.{Told}
use Rattle.view_value_changes.specs.declared.value.Value.{Value}
use Rattle.view_value_changes.specs.declared.value.Value.TheVariants.{Thread, Partition, Kind, Number, Bit}
use Rattle.view_value_changes.specs.Kind.{kind_of_state}

-- whom a processor keeps, on whose bill, and whether that is critical time
abbrev pub pick_values : Option Pick → List Value
pick_values None = Thread None ∷ Partition None ∷ Bit false ∷ []
pick_values (Some pick) = Thread (Some pick.thread) ∷ Partition (Some pick.partition) ∷ Bit pick.critical ∷ []

abbrev pub cpu_values : SchedulerState → ℕ → List Value
cpu_values s c = pick_values (cpu_at s c).running

-- by the row of a partition, what it used in the window, and what of that was critical: these times and its allowance (ns), whether it
-- is in budget, and whether its critical budget stands
abbrev pub row_values : Shape → PartitionRow → ℕ → ℕ → List Value
row_values shape row used critical =
    Number used ∷ Number (row.budget * whole shape / shape.parts) ∷ Number critical ∷ Bit (in_budget shape used row.budget)
    ∷ Bit (nat_lt critical row.critical) ∷ []

-- where there is no such partition
abbrev pub no_values : List Value
no_values = Number 0 ∷ Number 0 ∷ Number 0 ∷ Bit false ∷ Bit false ∷ []

-- partition p in the window at tick j
abbrev pub part_values : SchedulerState → List Entry → ℕ → ℕ → List Value
part_values s h j p =
    if nat_lt p (length s.rows) then row_values s.shape (row_or_none s.rows p) (window_used s.shape h j p) (window_critical s.shape h j p)
    else no_values

-- partition p after the entries of a run, and what these told of it
abbrev pub values_of_partition : Run → Told → ℕ → List Value
values_of_partition run told p =
    part_values (state_of_run run) run.entries (moment run.entries / (state_of_run run).shape.tick) p
    ++ (Bit (slice_index_or told.demand p false) ∷ Bit (slice_index_or told.overspent p false) ∷ [])

abbrev pub values_of_thread : SchedulerState → ℕ → List Value
values_of_thread s x = Kind (kind_of_state (thread_at s x).state) ∷ []

-- all processors, so many partitions, all threads
abbrev pub moment_values : Run → Told → ℕ → List Value
moment_values run told count =
    flat_map (cpu_values (state_of_run run)) (range_with_len 0 run.setup.scenario.shape.cpus)
    ++ (flat_map (values_of_partition run told) (range_with_len 0 count)
    ++ flat_map (values_of_thread (state_of_run run)) (range_with_len 0 (length run.setup.scenario.threads)))
