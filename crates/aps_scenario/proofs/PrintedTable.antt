-- A table's insertions, seen as members.
use Rattle.std.proofs.Common.{◌≡◌, ℕ, ◌+◌, ◌<◌, List, [], ◌∷◌, ◌++◌, map, length, get_or, take, sym, ◌≤◌, Vec, String, Global, Ordering, Less, Equal, Greater, string_bytes, refl, ap, ◌∙◌}
use Rattle.std.specs.BTreeMap.{insert_entry}
use Rattle.std.specs.Ordering.{match_ordering}
use Rattle.std.specs.String.{string_cmp}
use Rattle.std.proofs.lemmas.List.{map_more, take_all}
use Rattle.toml.specs.declared.value.Value.{Value}
use Rattle.toml.specs.declared.value.Value.TheVariants.{Array}
use Rattle.toml.specs.Data.{Data, item, push_item, array}
use Rattle.toml.specs.View.{view, items_of, items_view, members_view}
use Rattle.toml.proofs.Views.{items_view-push, view-Array}
use Rattle.aps_scenario.specs.PrintedTable.{insert_member, array_of_each}

match_entries : (o : Ordering) (a b c : List (String Global × Value)) → members_view (match_ordering o a b c) ≡ match_ordering o (members_view a) (members_view b) (members_view c)
match_entries Less a b c = refl
match_entries Equal a b c = refl
match_entries Greater a b c = refl

pub members_view-insert : (es : List (String Global × Value)) (k : String Global) (v : Value)
    → members_view (insert_entry string_cmp es k v) ≡ insert_member (string_bytes k) (view v) (members_view es)
members_view-insert [] k v = refl
members_view-insert (e ∷ es) k v = match_entries (string_cmp k e.0) _ _ _ ∙ rw (members_view-insert es k v)

items_of-push : (xs : List Data) (x : Data) → items_of (xs ++ x ∷ []) ≡ push_item (items_of xs) x
items_of-push [] x = refl
items_of-push (y ∷ xs) x = ap (item y) (items_of-push xs x)

-- one more element of an array
pub element-pushed : {X : Type 0} (shown : X → Data) (vs : List Value) (v : Value) (xs : List X) (i : ℕ) (x : X) → i < length xs → x ≡ get_or xs i x
    → items_view vs ≡ items_of (map shown (take i xs)) → view v ≡ shown x → items_view (vs ++ v ∷ []) ≡ items_of (map shown (take (i + 1) xs))
element-pushed shown vs v xs i x within here before seen =
    items_view-push vs v
    ∙ rw (before, seen, here) (sym (ap items_of (map_more shown xs i x within) ∙ items_of-push (map shown (take i xs)) (shown (get_or xs i x))))

-- an array of an element for each
pub array-pushed : {X : Type 0} (shown : X → Data) (vs : Vec Value Global) (xs : List X) (i : ℕ) → length xs ≤ i
    → items_view vs.items ≡ items_of (map shown (take i xs)) → view (Array vs) ≡ array_of_each shown xs
array-pushed shown vs xs i past before =
    view-Array vs ∙ ap array (before ∙ ap (λ ys. items_of (map shown ys)) (take_all i xs past))
