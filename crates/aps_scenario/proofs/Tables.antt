-- The table that `toml` reads, beside its map.
use Rattle.std.proofs.Common.{◌≡◌, ℕ, suc, length, Bool, true, false, not, List, [], ◌∷◌, Option, Some, None, option_map, String, Global, string_bytes, refl, ap, sym, Bor, nat_cmp, cond, IfSome, IfNone}
use Rattle.std.specs.List.{find}
use Rattle.std.specs.Map.{keys_of, lookup}
use Rattle.std.specs.BTreeMap.{is_at}
use Rattle.std.specs.Cmp.Lexicographic.{slice_cmp}
use Rattle.toml.specs.declared.value.Value.{Value}
use Rattle.toml.specs.Data.{get_member}
use Rattle.toml.specs.View.{view, items_view, members_view}
use Rattle.toml.proofs.Views.{table_get}
use Rattle.aps_scenario.specs.declared.key.Key.{Key}
use Rattle.aps_scenario.specs.Row.{is_known_key, unknown_key}
use Rattle.aps_scenario.specs.Elements.{items_len}

found_or : (b : Bool) (k : String Global) (rest : Option (String Global)) (other : Option (List ℕ)) → option_map string_bytes rest ≡ other
    → option_map string_bytes (cond (not b) (Some k) rest) ≡ cond b other (Some (string_bytes k))
found_or true k rest other e = e
found_or false k rest other e = refl

pub unknown_key-find : (known : List Key) (es : List (String Global × Value))
    → option_map string_bytes (find (λ k. not (is_known_key known (string_bytes k))) (keys_of es)) ≡ unknown_key known (members_view es)
unknown_key-find known [] = refl
unknown_key-find known (e ∷ es) = found_or (is_known_key known (string_bytes e.0)) e.0 _ _ (unknown_key-find known es)

pub found_some : (r : Option (Bor Value)) (k : List ℕ) (es : List (String Global × Value))
    → option_map (λ x. x.now) r ≡ lookup (is_at (λ x. slice_cmp nat_cmp k (string_bytes x))) es
    → IfSome r (λ v. get_member k (members_view es) ≡ Some (view v.now))
found_some None k es h = tt
found_some (Some x) k es h = sym (table_get (Some x) k es h)

pub found_none : (r : Option (Bor Value)) (k : List ℕ) (es : List (String Global × Value))
    → option_map (λ x. x.now) r ≡ lookup (is_at (λ x. slice_cmp nat_cmp k (string_bytes x))) es
    → IfNone r (get_member k (members_view es) ≡ None)
found_none None k es h = sym (table_get None k es h)
found_none (Some x) k es h = tt

pub items_len_view : (vs : List Value) → items_len (items_view vs) ≡ length vs
items_len_view [] = refl
items_len_view (v ∷ vs) = ap (λ n. suc n) (items_len_view vs)
