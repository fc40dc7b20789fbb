-- Arrays.
use Rattle.std.specs.Prelude.{ℕ, suc, nat_le, ◌&&◌, Option, Some, None, Result, Ok, Err, if◌then◌else◌}
use Rattle.toml.specs.Data.{Data, Items, no_items, item, as_array}
use Rattle.aps_scenario.specs.declared.key.Key.{Key}
use Rattle.aps_scenario.specs.declared.kind.Kind.{Kind}
use Rattle.aps_scenario.specs.declared.kind.Kind.TheVariants.{OutOfRange}
use Rattle.aps_scenario.specs.declared.refusal.Finding.{Finding}
use Rattle.aps_scenario.specs.Row.{◌>>=◌, Row, or_wrong_kind}

abbrev pub items_len : Items → ℕ
items_len no_items = 0
items_len (item d rest) = suc (items_len rest)

-- an array of so many elements
abbrev pub array_of : ℕ → ℕ → Data → Result Items Kind
array_of least most d = do
  items ← or_wrong_kind (as_array d)
  if nat_le least (items_len items) && nat_le (items_len items) most then Ok items else Err OutOfRange

abbrev pub row_array : Key → ℕ → ℕ → Option Items → Row Items
row_array key least most default = record { key = key; reads = array_of least most; default = default }

-- an array of tables, which may be absent
abbrev pub row_tables : Key → ℕ → Row Items
row_tables key most = row_array key 0 most (Some no_items)

-- the elements of an array that may be absent
abbrev pub items_or_none : Option Items → Items
items_or_none None = no_items
items_or_none (Some items) = items

-- the elements are read one after the other, each over what the earlier ones left
unfoldable pub read_each : {A B : Type 0} → (A → Data → Result B Finding) → (A → B → A) → A → Items → Result A Finding
read_each reads adds so_far no_items = Ok so_far
read_each reads adds so_far (item d rest) = do
  new ← reads so_far d
  read_each reads adds (adds so_far new) rest
