-- Rows under their names: what the map's entries say of them.
use Rattle.std.proofs.Common.{◌≡◌, ℕ, zero, suc, ◌+◌, ◌<◌, ◌≤◌, List, [], ◌∷◌, ◌++◌, length, refl, sym, ◌∙◌, ap, Bool, false, cond, not, nat_lt, Option, Some, None, Result, Ok, Err, IsOk, OnOk, is_some, position, slice_set, arith, length-append}
use Rattle.std.specs.List.{position_or_len}
use Rattle.std.specs.Map.{keys_of, values_of, lookup}
use Rattle.std.specs.Str.{bytes_eq}
use Rattle.std.proofs.Math.Seq.{map-set_same}
use Rattle.std.proofs.lemmas.Bool.{false≢true}
use Rattle.std.proofs.lemmas.Cmp.{nat_list_eq_equiv}
use Rattle.std.proofs.lemmas.List.{length-map, map-append}
use Rattle.indexmap.specs.IndexMap.{insert_entry, set_value_at}
use Rattle.indexmap.proofs.MapLemmas.{absent_from_lookup, insert_entry-absent, some_index}
use Rattle.aps_model.specs.declared.partition.PartitionRow.{PartitionRow}
use Rattle.aps_model.specs.Limits.{most_partitions}
use Rattle.aps_model.specs.Partition.{no_row, partition_named, row_or_none}
use Rattle.aps_tree.specs.Named.{AreByName, names_of}

-- ---- look-ups

place_named : (rows : List PartitionRow) (name : List ℕ) → position_or_len (bytes_eq name) (names_of rows) ≡ position_or_len (λ (row : PartitionRow). bytes_eq row.name name) rows
place_named [] name = refl
place_named (row ∷ rows) name =
    (λ j. cond (not (nat_list_eq_equiv.symm name row.name j)) (1 + place_named rows name j) 0)

-- a look-up among the names finds the partition of that name
pub found_by_name : (rows : List PartitionRow) (name : List ℕ) → position (bytes_eq name) (names_of rows) ≡ partition_named rows name
found_by_name rows name =
    let count = length-map rows (λ (row : PartitionRow). row.name) in
    λ j. cond (nat_lt (place_named rows name j) (count j)) (Some (place_named rows name j)) None

-- ---- entries

none_from : {X : Type 0} (o : Option X) → is_some o ≡ false → o ≡ None
none_from None h = refl
none_from (Some x) h = absurd (false≢true (sym h))

module _ {K X : Type 0} where
  pub values-set_value_at : (es : List (K × X)) (i : ℕ) (w : X) → values_of (set_value_at es i w) ≡ slice_set (values_of es) i w
  values-set_value_at [] i w = refl
  values-set_value_at (e ∷ es) zero w = refl
  values-set_value_at (e ∷ es) (suc i) w = ap (λ l. e.1 ∷ l) (values-set_value_at es i w)

  -- an entry whose key no entry has goes last
  pub inserted : (eq : K → K → Bool) (es : List (K × X)) (k : K) (v : X) → position (eq k) (keys_of es) ≡ None → insert_entry eq es k v ≡ es ++ (k, v) ∷ []
  inserted eq es k v none =
      let missing = sym (some_index (eq k) es) ∙ ap is_some none in
      insert_entry-absent eq k v es (absent_from_lookup (eq k) es (none_from (lookup (eq k) es) missing))

pub on_ok : {T E P : Type 0} (r : Result T E) → IsOk r → OnOk r P → P
on_ok (Ok x) is p = p
on_ok (Err e) is p = absurd (false≢true is)

-- ---- rows

-- a row more, under its name
pub pushed_by_name : (names names' : List (List ℕ)) (rows : List PartitionRow) (row : PartitionRow) (spare spare' : ℕ)
    → names' ≡ names ++ row.name ∷ [] → spare ≤ spare' + 1 → AreByName names rows spare → AreByName names' (rows ++ row ∷ []) spare'
pushed_by_name names names' rows row spare spare' more used by_name = record {
  named = more ∙ ap (λ l. l ++ row.name ∷ []) by_name.named ∙ sym (map-append (λ (r : PartitionRow). r.name) rows (row ∷ []));
  room = let r = by_name.room in let n = ap length more in omega (arith, n, r, used, length-append names (row.name ∷ []));
}

-- another row of the same name in its place
pub set_by_name : (names : List (List ℕ)) (rows : List PartitionRow) (place : ℕ) (row : PartitionRow) (spare : ℕ)
    → row.name ≡ (row_or_none rows place).name → AreByName names rows spare → AreByName names (slice_set rows place row) spare
set_by_name names rows place row spare same by_name = record {
  named = by_name.named ∙ sym (map-set_same (λ (r : PartitionRow). r.name) rows place row no_row same);
  room = by_name.room;
}

-- fewer than 32 rows leave room for one more
pub has_room : (names : List (List ℕ)) (rows : List PartitionRow) (spare : ℕ) → length rows < most_partitions → AreByName names rows spare → 0 < spare
has_room names rows spare few by_name =
    let r = by_name.room in
    let n = ap length by_name.named ∙ length-map rows (λ (r : PartitionRow). r.name) in
    omega (arith, few, r, n)
