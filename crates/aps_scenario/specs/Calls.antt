-- What a command asks, by its kind: each kind has its own keys.
use Rattle.std.specs.Prelude.{ℕ, Bool, not, List, [], ◌∷◌, Option, Some, None, is_some, Result, Ok}
use Rattle.std.specs.List.{position, list_any}
use Rattle.std.specs.Str.{bytes_eq}
use Rattle.toml.specs.Data.{Data, Members, get_member}
use Rattle.aps_model.specs.declared.command.Call.{Call}
use Rattle.aps_model.specs.declared.command.Call.TheVariants as call
use Rattle.aps_model.specs.declared.scenario.ThreadRow.{ThreadRow}
use Rattle.aps_scenario.specs.declared.key.Key.{Key}
use Rattle.aps_scenario.specs.declared.key.Key.TheVariants.{Name, Parent, Partition, Budget, Critical, Max, Thread, Window, Free, Limit, Bankruptcy, Tick, Do}
use Rattle.aps_scenario.specs.declared.kind.Kind.{Kind}
use Rattle.aps_scenario.specs.declared.kind.Kind.TheVariants.{Missing}
use Rattle.aps_scenario.specs.declared.refusal.Finding.{Finding}
use Rattle.aps_scenario.specs.declared.refusal.Place.{Place}
use Rattle.aps_scenario.specs.declared.words.CommandKind.{CommandKind}
use Rattle.aps_scenario.specs.declared.words.CommandKind.TheVariants.{Create, Modify, Lookup, QueryPartition, QueryThread, QueryParameters, SetParameters, Statistics, MarkCritical, ClearCritical}
use Rattle.aps_scenario.specs.Key.{key_text}
use Rattle.aps_scenario.specs.Partitions.{or_unknown, row_budget, row_critical, row_max, system_name}
use Rattle.aps_scenario.specs.Row.{◌>>=◌, Row, row_name, name as name_in, value_of, optional, refuse_if}
use Rattle.aps_scenario.specs.Sizes.{row_window, row_free, row_limit, row_bankruptcy}

-- ---- keys

-- the keys of a kind beside those that all have
abbrev pub own_keys : Option CommandKind → List Key
own_keys None = []
own_keys (Some Create) = Name ∷ Parent ∷ Budget ∷ Critical ∷ Max ∷ []
own_keys (Some Modify) = Partition ∷ Budget ∷ Critical ∷ Max ∷ []
own_keys (Some Lookup) = Partition ∷ []
own_keys (Some QueryPartition) = Partition ∷ []
own_keys (Some QueryThread) = Thread ∷ []
own_keys (Some QueryParameters) = []
own_keys (Some SetParameters) = Window ∷ Free ∷ Limit ∷ Bankruptcy ∷ []
own_keys (Some Statistics) = Partition ∷ []
own_keys (Some MarkCritical) = Thread ∷ []
own_keys (Some ClearCritical) = Thread ∷ []

abbrev pub command_keys : Option CommandKind → List Key
command_keys kind = Tick ∷ Do ∷ own_keys kind

-- the table has this key
abbrev pub has_key : Members → Key → Bool
has_key t key = is_some (get_member (key_text key) t)

-- a table that has none of these keys lacks the first
abbrev pub some_key : Key → List Key → Place → Members → Result (Unit {0}) Finding
some_key first others place t = refuse_if (not (list_any (has_key t) (first ∷ others))) Missing place first

-- ---- rows

abbrev pub row_partition_name : Row (List ℕ)
row_partition_name = row_name Partition None

abbrev pub thread_by_name : List ThreadRow → List ℕ → Option ℕ
thread_by_name threads name = position (λ (row : ThreadRow). bytes_eq row.name name) threads

-- the thread that a value names
abbrev pub thread_in_value : List ThreadRow → Data → Result ℕ Kind
thread_in_value threads d = do
  name ← name_in d
  or_unknown (thread_by_name threads name)

abbrev pub row_thread : List ThreadRow → Row ℕ
row_thread threads = record { key = Thread; reads = thread_in_value threads; default = None }

-- ---- calls

unfoldable pub create_at : ℕ → Place → Members → Result Call Finding
create_at parts place t = do
  name ← value_of (row_name Name None) place t
  parent ← value_of (row_name Parent (Some system_name)) place t
  budget ← value_of (row_budget parts) place t
  critical ← value_of row_critical place t
  max ← value_of (row_max 0 parts) place t
  Ok (call.Create name parent budget critical max)

unfoldable pub modify_at : ℕ → Place → Members → Result Call Finding
modify_at parts place t = do
  partition ← value_of row_partition_name place t
  some ← some_key Budget (Critical ∷ Max ∷ []) place t
  budget ← value_of (optional (row_budget parts)) place t
  critical ← value_of (optional row_critical) place t
  max ← value_of (optional (row_max 0 parts)) place t
  Ok (call.Modify partition budget critical max)

unfoldable pub set_parameters_at : Place → Members → Result Call Finding
set_parameters_at place t = do
  some ← some_key Window (Free ∷ Limit ∷ Bankruptcy ∷ []) place t
  window ← value_of (optional row_window) place t
  free ← value_of (optional row_free) place t
  limit ← value_of (optional row_limit) place t
  bankruptcy ← value_of (optional row_bankruptcy) place t
  Ok (call.SetParameters window free limit bankruptcy)

abbrev pub on_partition_at : (List ℕ → Call) → Place → Members → Result Call Finding
on_partition_at make place t = do
  partition ← value_of row_partition_name place t
  Ok (make partition)

abbrev pub on_thread_at : (ℕ → Call) → List ThreadRow → Place → Members → Result Call Finding
on_thread_at make threads place t = do
  thread ← value_of (row_thread threads) place t
  Ok (make thread)

-- what a command of a kind asks, where budgets count in these parts and these are the threads
abbrev pub call_at : ℕ → List ThreadRow → CommandKind → Place → Members → Result Call Finding
call_at parts threads Create place t = create_at parts place t
call_at parts threads Modify place t = modify_at parts place t
call_at parts threads Lookup place t = on_partition_at call.Lookup place t
call_at parts threads QueryPartition place t = on_partition_at call.QueryPartition place t
call_at parts threads QueryThread place t = on_thread_at call.QueryThread threads place t
call_at parts threads QueryParameters place t = Ok call.QueryParameters
call_at parts threads SetParameters place t = set_parameters_at place t
call_at parts threads Statistics place t = on_partition_at call.Statistics place t
call_at parts threads MarkCritical place t = on_thread_at call.MarkCritical threads place t
call_at parts threads ClearCritical place t = on_thread_at call.ClearCritical threads place t
