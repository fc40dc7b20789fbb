-- The partitions that a program may join.
use Rattle.std.specs.Prelude.{ℕ, List, [], ◌∷◌, ◌++◌, map, Option, Some, None, Result, Ok, Err}
use Rattle.toml.specs.Data.{Data, Items, no_items, item, Members, get_member, as_table, as_array}
use Rattle.aps_model.specs.declared.partition.PartitionRow.{PartitionRow}
use Rattle.aps_scenario.specs.declared.key.Key.TheVariants.{Command, Name, Do}
use Rattle.aps_scenario.specs.declared.words.CommandKind.{CommandKind}
use Rattle.aps_scenario.specs.declared.words.CommandKind.TheVariants.{Create}
use Rattle.aps_scenario.specs.Elements.{items_or_none}
use Rattle.aps_scenario.specs.Key.{key_text}
use Rattle.aps_scenario.specs.Row.{name as name_in, word}
use Rattle.aps_scenario.specs.Words.{command_words}

abbrev pub ok_of : {A E : Type 0} → Result A E → Option A
ok_of (Ok x) = Some x
ok_of (Err e) = None

abbrev pub then_of : {A B : Type 0} → Option A → (A → Option B) → Option B
then_of None f = None
then_of (Some x) f = f x

-- the kind of command that a table's `do` names
abbrev pub command_kind : Members → Option CommandKind
command_kind t = then_of (get_member (key_text Do) t) (λ d. ok_of (word command_words d))

-- the name in a table, where it is a text that can be a name
abbrev pub own_name : Members → Option (List ℕ)
own_name t = then_of (get_member (key_text Name) t) (λ d. ok_of (name_in d))

abbrev pub where_create : Option CommandKind → Option (List ℕ) → Option (List ℕ)
where_create (Some Create) name = name
where_create other name = None

-- the name that a command would give to a new partition, whatever else is wrong with it
abbrev pub name_to_create : Data → Option (List ℕ)
name_to_create d = then_of (as_table d) (λ t. where_create (command_kind t) (own_name t))

abbrev pub name_listed : Option (List ℕ) → List (List ℕ)
name_listed None = []
name_listed (Some name) = name ∷ []

abbrev pub created_names : Items → List (List ℕ)
created_names no_items = []
created_names (item d rest) = name_listed (name_to_create d) ++ created_names rest

abbrev pub commands_in : Members → Option Items
commands_in t = then_of (get_member (key_text Command) t) as_array

-- the names that the commands of a top table would give
abbrev pub created_at : Members → List (List ℕ)
created_at t = created_names (items_or_none (commands_in t))

abbrev pub joinable_at : List PartitionRow → Members → List (List ℕ)
joinable_at rows t = map (λ (row : PartitionRow). row.name) rows ++ created_at t
