-- The threads of the top table.
use Rattle.std.specs.Prelude.{ℕ, Bool, false, List, [], ◌∷◌, ◌++◌, length, Some, None, Result, Ok}
use Rattle.std.specs.List.{list_any}
use Rattle.std.specs.Str.{bytes_eq}
use Rattle.aps_model.specs.Limits.{greatest_priority, most_threads}
use Rattle.toml.specs.Data.{Data, Items, Members}
use Rattle.aps_model.specs.declared.partition.PartitionRow.{PartitionRow}
use Rattle.aps_model.specs.declared.scenario.ThreadRow.{ThreadRow}
use Rattle.aps_model.specs.declared.scenario.Policy.{Policy as PolicyType}
use Rattle.aps_model.specs.declared.scenario.Policy.TheVariants.{Fifo}
use Rattle.aps_scenario.specs.declared.key.Key.{Key}
use Rattle.aps_scenario.specs.declared.key.Key.TheVariants.{Thread, Name, Partition, Priority, Policy, Critical, Program}
use Rattle.aps_scenario.specs.declared.kind.Kind.TheVariants.{Duplicate}
use Rattle.aps_scenario.specs.declared.refusal.Finding.{Finding}
use Rattle.aps_scenario.specs.declared.refusal.Place.TheVariants as place
use Rattle.aps_scenario.specs.Elements.{row_tables, read_each}
use Rattle.aps_scenario.specs.Partitions.{row_partition}
use Rattle.aps_scenario.specs.Program.{program_at}
use Rattle.aps_scenario.specs.Row.{◌>>=◌, Row, row_integer, row_name, row_truth, row_word, value_of, only, table_of, refuse_if}
use Rattle.aps_scenario.specs.Words.{policy_words}

abbrev pub thread_keys : List Key
thread_keys = Name ∷ Partition ∷ Priority ∷ Policy ∷ Critical ∷ Program ∷ []

abbrev pub row_priority : Row ℕ
row_priority = row_integer Priority 1 greatest_priority 1 (Some 10)

abbrev pub row_policy : Row PolicyType
row_policy = row_word Policy policy_words (Some Fifo)

abbrev pub row_critical_mark : Row Bool
row_critical_mark = row_truth Critical (Some false)

-- some thread has the name
abbrev pub is_thread : List ThreadRow → List ℕ → Bool
is_thread threads name = list_any (λ (row : ThreadRow). bytes_eq name row.name) threads

-- thread i of this name, by its other keys
unfoldable pub thread_values : List PartitionRow → List (List ℕ) → List (List ℕ) → ℕ → List ℕ → Members → Result ThreadRow Finding
thread_values partitions channels joinable i name t = do
  partition ← value_of (row_partition Partition partitions) (place.Thread i) t
  priority ← value_of row_priority (place.Thread i) t
  policy ← value_of row_policy (place.Thread i) t
  critical ← value_of row_critical_mark (place.Thread i) t
  program ← program_at channels joinable i t
  Ok (record { name = name; partition = partition; priority = priority; policy = policy; critical = critical; program = program })

-- thread i after these ones, where these are the partitions, the channels and the names that may be joined
unfoldable pub thread_read_at : List PartitionRow → List (List ℕ) → List (List ℕ) → List ThreadRow → ℕ → Data → Result ThreadRow Finding
thread_read_at partitions channels joinable threads i d = do
  t ← table_of (place.Thread i) d
  known ← only thread_keys (place.Thread i) t
  name ← value_of (row_name Name None) (place.Thread i) t
  new ← refuse_if (is_thread threads name) Duplicate (place.Thread i) Name
  thread_values partitions channels joinable i name t

abbrev pub next_thread : List PartitionRow → List (List ℕ) → List (List ℕ) → List ThreadRow → Data → Result ThreadRow Finding
next_thread partitions channels joinable threads d = thread_read_at partitions channels joinable threads (length threads) d

abbrev pub threads_with_new : List ThreadRow → ThreadRow → List ThreadRow
threads_with_new threads new = threads ++ new ∷ []

-- the threads after these elements
abbrev pub threads_from : List PartitionRow → List (List ℕ) → List (List ℕ) → List ThreadRow → Items → Result (List ThreadRow) Finding
threads_from partitions channels joinable = read_each (next_thread partitions channels joinable) threads_with_new

unfoldable pub threads_at : List PartitionRow → List (List ℕ) → List (List ℕ) → Members → Result (List ThreadRow) Finding
threads_at partitions channels joinable t = do
  elements ← value_of (row_tables Thread most_threads) place.Top t
  threads_from partitions channels joinable [] elements
