-- One row of the tables of keys: a key with its kind, its range and its default.
use Rattle.std.specs.Prelude.{ℕ, ℤ, pos, negsuc, ◌%◌, ◌==◌, ◌&&◌, nat_le, Bool, List, [], ◌∷◌, length, Option, Some, None, Result, Ok, Err, if◌then◌else◌}
use Rattle.std.specs.List.{list_any, list_all}
use Rattle.std.specs.Str.{bytes_eq}
use Rattle.aps_model.specs.Limits.{longest_name}
use Rattle.toml.specs.Data.{Data, Members, no_members, member, get_member, as_integer, as_str, as_bool, as_table}
use Rattle.aps_model.specs.Name.{is_name_byte}
use Rattle.aps_scenario.specs.declared.key.Key.{Key}
use Rattle.aps_scenario.specs.declared.kind.Kind.{Kind}
use Rattle.aps_scenario.specs.declared.kind.Kind.TheVariants.{Missing, WrongKind, OutOfRange, BadName, UnknownKey}
use Rattle.aps_scenario.specs.declared.refusal.Place.{Place}
use Rattle.aps_scenario.specs.declared.refusal.Part.{Part}
use Rattle.aps_scenario.specs.declared.refusal.Part.TheVariants.{Table, At, OtherKey}
use Rattle.aps_scenario.specs.declared.refusal.Finding.{Finding}
use Rattle.aps_scenario.specs.Key.{key_text}
use Rattle.aps_scenario.specs.Path.{held, printed_key}

infixl 10 ◌>>=◌
-- the tests come one after the other, and the first that fails is the finding
abbrev pub ◌>>=◌ : {A B E : Type 0} → Result A E → (A → Result B E) → Result B E
(Ok x) >>= f = f x
(Err e) >>= f = Err e

abbrev pub finds : {A : Type 0} → Kind → Part → Result A Finding
finds kind part = Err (record { kind = kind; part = part })

-- ---- values

abbrev pub or_wrong_kind : {A : Type 0} → Option A → Result A Kind
or_wrong_kind None = Err WrongKind
or_wrong_kind (Some x) = Ok x

abbrev pub in_range : ℕ → ℕ → ℕ → ℕ → Result ℕ Kind
in_range low high step n = if (nat_le low n && nat_le n high) && (n % step == 0) then Ok n else Err OutOfRange

abbrev pub integer_in : ℕ → ℕ → ℕ → Option ℤ → Result ℕ Kind
integer_in low high step None = Err WrongKind
integer_in low high step (Some (pos n)) = in_range low high step n
integer_in low high step (Some (negsuc n)) = Err OutOfRange

-- an integer from low to high, a multiple of step
abbrev pub integer : ℕ → ℕ → ℕ → Data → Result ℕ Kind
integer low high step d = integer_in low high step (as_integer d)

abbrev pub truth : Data → Result Bool Kind
truth d = or_wrong_kind (as_bool d)

-- what the text stands for in a fixed list of words
abbrev pub word_in : {A : Type 0} → List (List ℕ × A) → List ℕ → Result A Kind
word_in [] text = Err OutOfRange
word_in (word ∷ words) text = if bytes_eq text word.0 then Ok word.1 else word_in words text

abbrev pub word : {A : Type 0} → List (List ℕ × A) → Data → Result A Kind
word words d = do
  text ← or_wrong_kind (as_str d)
  word_in words text

abbrev pub is_name : List ℕ → Bool
is_name text = (nat_le 1 (length text) && nat_le (length text) longest_name) && list_all is_name_byte text

-- a text that can be a name
abbrev pub name : Data → Result (List ℕ) Kind
name d = do
  text ← or_wrong_kind (as_str d)
  if is_name text then Ok text else Err BadName

-- ---- rows

-- a key, what its value means or why it is refused, and what stands where the key is absent
pub record Row (A : Type 0) : Type 0 where
  pub key : Key
  pub reads : Data → Result A Kind
  pub default : Option A

abbrev pub or_default : {A : Type 0} → Option A → Result A Kind
or_default None = Err Missing
or_default (Some x) = Ok x

abbrev pub given_or_default : {A : Type 0} → Row A → Option Data → Result A Kind
given_or_default row None = or_default row.default
given_or_default row (Some d) = row.reads d

abbrev pub at_key : {A : Type 0} → Place → Key → Result A Kind → Result A Finding
at_key place key (Ok x) = Ok x
at_key place key (Err kind) = finds kind (At place key)

-- the value of a row in a table, or what is wrong with it
abbrev pub value_of : {A : Type 0} → Row A → Place → Members → Result A Finding
value_of row place t = at_key place row.key (given_or_default row (get_member (key_text row.key) t))

abbrev pub row_integer : Key → ℕ → ℕ → ℕ → Option ℕ → Row ℕ
row_integer key low high step default = record { key = key; reads = integer low high step; default = default }

abbrev pub row_truth : Key → Option Bool → Row Bool
row_truth key default = record { key = key; reads = truth; default = default }

abbrev pub row_word : {A : Type 0} → Key → List (List ℕ × A) → Option A → Row A
row_word key words default = record { key = key; reads = word words; default = default }

abbrev pub row_name : Key → Option (List ℕ) → Row (List ℕ)
row_name key default = record { key = key; reads = name; default = default }

abbrev pub some_of : {A E : Type 0} → Result A E → Result (Option A) E
some_of (Ok x) = Ok (Some x)
some_of (Err e) = Err e

-- the row with no value where the key is absent
abbrev pub optional : {A : Type 0} → Row A → Row (Option A)
optional row = record { key = row.key; reads = λ d. some_of (row.reads d); default = Some None }

-- ---- tables

-- the key is one of these
abbrev pub is_known_key : List Key → List ℕ → Bool
is_known_key known key = list_any (λ k. bytes_eq key (key_text k)) known

-- the first key of a table that is none of these; a table has its keys in the order of their bytes
abbrev pub unknown_key : List Key → Members → Option (List ℕ)
unknown_key known no_members = None
unknown_key known (member key d rest) = if is_known_key known key then unknown_key known rest else Some key

abbrev pub none_unknown : Place → Option (List ℕ) → Result (Unit {0}) Finding
none_unknown place None = Ok tt
none_unknown place (Some key) = finds UnknownKey (OtherKey place (held (printed_key key)))

-- a table has no keys but these
abbrev pub only : List Key → Place → Members → Result (Unit {0}) Finding
only known place t = none_unknown place (unknown_key known t)

abbrev pub table_or_wrong_kind : Place → Option Members → Result Members Finding
table_or_wrong_kind place None = finds WrongKind (Table place)
table_or_wrong_kind place (Some t) = Ok t

-- an element of an array is a table
abbrev pub table_of : Place → Data → Result Members Finding
table_of place d = table_or_wrong_kind place (as_table d)

-- a test that is made once a value is read: the finding, where the test says so
abbrev pub refuse_if : Bool → Kind → Place → Key → Result (Unit {0}) Finding
refuse_if wrong kind place key = if wrong then finds kind (At place key) else Ok tt
