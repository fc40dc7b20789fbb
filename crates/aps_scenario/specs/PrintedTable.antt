-- Tables as they are printed: the members in the order of their keys.
use Rattle.std.specs.Prelude.{ℕ, pos, List, map, Option, Some, None}
use Rattle.std.specs.Ordering.{nat_cmp, match_ordering}
use Rattle.std.specs.Cmp.Lexicographic.{slice_cmp}
use Rattle.toml.specs.Data.{Data, integer, array, Members, no_members, member}
use Rattle.toml.specs.View.{items_of}
use Rattle.aps_scenario.specs.declared.key.Key.{Key}
use Rattle.aps_scenario.specs.Key.{key_text}

-- the members with a value at a key, in the order of the keys
abbrev pub insert_member : List ℕ → Data → Members → Members
insert_member k d no_members = member k d no_members
insert_member k d (member l e ms) =
    match_ordering (slice_cmp nat_cmp k l) (member k d (member l e ms)) (member l d ms) (member l e (insert_member k d ms))

abbrev pub put : Key → Data → Members → Members
put key d t = insert_member (key_text key) d t

abbrev pub number_data : ℕ → Data
number_data n = integer (pos n)

-- the table with a value at a key, where there is one
abbrev pub put_some : {X : Type 0} → Key → (X → Data) → Option X → Members → Members
put_some key shown None t = t
put_some key shown (Some x) t = put key (shown x) t

-- an array of an element for each of these
abbrev pub array_of_each : {X : Type 0} → (X → Data) → List X → Data
array_of_each shown xs = array (items_of (map shown xs))
