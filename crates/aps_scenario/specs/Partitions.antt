-- The partitions of the top table.
use Rattle.std.specs.Prelude.{ℕ, ◌-◌, nat_lt, Bool, List, [], ◌∷◌, length, codes, Option, Some, None, Result, Ok, Err}
use Rattle.std.specs.List.{list_any}
use Rattle.std.specs.Str.{bytes_eq}
use Rattle.toml.specs.Data.{Data, Items, Members}
use Rattle.aps_model.specs.declared.partition.PartitionRow.{PartitionRow}
use Rattle.aps_model.specs.Partition.{row_or_none, partition_named}
use Rattle.aps_model.specs.Tree.{rows_created}
use Rattle.aps_scenario.specs.declared.key.Key.{Key}
use Rattle.aps_scenario.specs.declared.key.Key.TheVariants.{Partition, Name, Parent, Budget, Critical, Max}
use Rattle.aps_scenario.specs.declared.kind.Kind.{Kind}
use Rattle.aps_scenario.specs.declared.kind.Kind.TheVariants.{UnknownName, Duplicate, BudgetOver}
use Rattle.aps_scenario.specs.declared.refusal.Finding.{Finding}
use Rattle.aps_scenario.specs.declared.refusal.Place.{Place}
use Rattle.aps_scenario.specs.declared.refusal.Place.TheVariants as place
use Rattle.aps_scenario.specs.Elements.{row_tables, read_each}
use Rattle.aps_scenario.specs.Row.{◌>>=◌, Row, row_integer, row_name, name as name_in, value_of, only, table_of, refuse_if}
use Rattle.aps_model.specs.Limits.{last_partition, most_critical}

abbrev pub partition_keys : List Key
partition_keys = Name ∷ Parent ∷ Budget ∷ Critical ∷ Max ∷ []

abbrev pub or_unknown : Option ℕ → Result ℕ Kind
or_unknown None = Err UnknownName
or_unknown (Some p) = Ok p

-- the partition that a value names
abbrev pub partition_of : List PartitionRow → Data → Result ℕ Kind
partition_of rows d = do
  name ← name_in d
  or_unknown (partition_named rows name)

-- a key that names one of these partitions, or the root where it is absent
abbrev pub row_partition : Key → List PartitionRow → Row ℕ
row_partition key rows = record { key = key; reads = partition_of rows; default = Some 0 }

abbrev pub row_budget : ℕ → Row ℕ
row_budget parts = row_integer Budget 0 parts 1 None

abbrev pub row_critical : Row ℕ
row_critical = row_integer Critical 0 most_critical 1 (Some 0)

abbrev pub row_max : ℕ → ℕ → Row ℕ
row_max budget parts = row_integer Max budget parts 1 (Some parts)

-- some row has the name
abbrev pub is_partition : List PartitionRow → List ℕ → Bool
is_partition rows name = list_any (λ (row : PartitionRow). bytes_eq name row.name) rows

-- the partition of this name, by its other keys; its budget is at most what its parent has left
unfoldable pub partition_values : ℕ → List PartitionRow → Place → List ℕ → Members → Result PartitionRow Finding
partition_values parts rows place name t = do
  parent ← value_of (row_partition Parent rows) place t
  budget ← value_of (row_budget parts) place t
  critical ← value_of row_critical place t
  max ← value_of (row_max budget parts) place t
  funded ← refuse_if (nat_lt (row_or_none rows parent).budget budget) BudgetOver place Budget
  Ok (record { name = name; parent = parent; budget = budget; critical = critical; max = max })

-- a partition at this place, over these rows, of which the root is the first
unfoldable pub partition_at : ℕ → List PartitionRow → Place → Data → Result PartitionRow Finding
partition_at parts rows place d = do
  t ← table_of place d
  known ← only partition_keys place t
  name ← value_of (row_name Name None) place t
  new ← refuse_if (is_partition rows name) Duplicate place Name
  partition_values parts rows place name t

-- the element after these rows, of which the root isn't one
abbrev pub next_partition : ℕ → List PartitionRow → Data → Result PartitionRow Finding
next_partition parts rows d = partition_at parts rows (place.Partition (length rows - 1)) d

-- the rows with one more, which takes its budget from its parent
abbrev pub rows_with_new : List PartitionRow → PartitionRow → List PartitionRow
rows_with_new rows new = rows_created rows new.name new.parent new.budget new.critical new.max

-- the rows after these elements
abbrev pub partitions_from : ℕ → List PartitionRow → Items → Result (List PartitionRow) Finding
partitions_from parts = read_each (next_partition parts) rows_with_new

abbrev pub system_name : List ℕ
system_name = codes "System"

-- the root, before any budget is taken from it
abbrev pub system : ℕ → PartitionRow
system parts = record { name = system_name; parent = 0; budget = parts; critical = 0; max = parts }

-- the partitions of the top table, the root first
unfoldable pub partitions_at : ℕ → Members → Result (List PartitionRow) Finding
partitions_at parts t = do
  elements ← value_of (row_tables Partition last_partition) place.Top t
  partitions_from parts (system parts ∷ []) elements
