-- The elements of an array, read in a loop.
use Rattle.std.proofs.Common.{◌≡◌, ℕ, suc, ◌+◌, ◌<◌, ◌≤◌, List, length, get_or, drop, Result, Ok, Err, inl, inr, sym, arith, nat_le, ◌&&◌}
use Rattle.std.proofs.lemmas.Bool.Decides.{nat_tests}
use Rattle.std.proofs.lemmas.List.{drop_all}
use Rattle.toml.specs.declared.value.Value.{Value}
use Rattle.toml.specs.Data.{Data, Items, no_items, item, Members, as_array}
use Rattle.toml.specs.View.{view, items_view}
use Rattle.toml.proofs.Views.{items_view-drop}
use Rattle.aps_scenario.specs.declared.key.Key.{Key}
use Rattle.aps_scenario.specs.declared.refusal.Place.{Place}
use Rattle.aps_scenario.specs.declared.refusal.Finding.{Finding}
use Rattle.aps_scenario.specs.declared.refusal.Failure.{Failure}
use Rattle.aps_scenario.specs.declared.refusal.Failure.TheVariants as failure
use Rattle.aps_scenario.specs.Row.{value_of, or_wrong_kind}
use Rattle.aps_scenario.specs.Elements.{read_each, items_len, array_of, row_tables}
use Rattle.aps_scenario.proofs.Values.{bind-ok, cond-ok, value_of-ok}
use Rattle.aps_scenario.specs.Refusal.{Fails}

module _ {A B : Type 0} (reads : A → Data → Result B Finding) (adds : A → B → A) (so_far : A) (vs : List Value) (i : ℕ) (whole : Result A Finding) where
  -- what one turn of the loop has: the elements as a slice, the element at its place, and what is read from here on
  pub record Turn (us : List Value) (v : Value) : Type 0 where
    pub items_are : us ≡ vs
    pub within : i < length us
    pub here : v ≡ get_or us i v
    pub before : read_each reads adds so_far (items_view (drop i vs)) ≡ whole

  pub read_each-next : (us : List Value) (v : Value) (new : B) → Turn us v → reads so_far (view v) ≡ Ok new
      → read_each reads adds (adds so_far new) (items_view (drop (i + 1) vs)) ≡ whole
  unfolding read_each
  read_each-next us v new turn read =
      let within : i < length vs = rw (← turn.items_are) turn.within in
      let here : v ≡ get_or vs i v = rw (← turn.items_are) turn.here in
      rw (items_view-drop vs i v within, ← here, read) at turn.before

  pub read_each-stops : (us : List Value) (v : Value) (e : Finding) → Turn us v → reads so_far (view v) ≡ Err e → whole ≡ Err e
  unfolding read_each
  read_each-stops us v e turn read =
      let within : i < length vs = rw (← turn.items_are) turn.within in
      let here : v ≡ get_or vs i v = rw (← turn.items_are) turn.here in
      sym (rw (items_view-drop vs i v within, ← here, read) at turn.before)

  pub read_each-fails : (us : List Value) (v : Value) (e : Failure) → Turn us v → Fails e (reads so_far (view v)) → Fails e whole
  read_each-fails us v failure.NoMemory turn read = tt
  read_each-fails us v (failure.Found e) turn read = read_each-stops us v e turn read

  pub read_each-ends : length vs ≤ i → read_each reads adds so_far (items_view (drop i vs)) ≡ whole → whole ≡ Ok so_far
  unfolding read_each
  read_each-ends past before = sym (rw (drop_all i vs past) at before)

-- a fact of what is read so far and of its number is kept by each element
pub read_each-keeps : {A B : Type 0} (reads : A → Data → Result B Finding) (adds : A → B → A) (P : ℕ → A → Type 0)
    → ((n : ℕ) (so_far : A) (d : Data) (new : B) → P n so_far → reads so_far d ≡ Ok new → P (suc n) (adds so_far new))
    → (items : Items) (n : ℕ) (so_far whole : A) → P n so_far → read_each reads adds so_far items ≡ Ok whole → P (n + items_len items) whole
unfolding read_each
read_each-keeps reads adds P step no_items n so_far whole before e =
    let same : so_far ≡ whole = cc in
    let count : n ≡ n + 0 = omega arith in
    rw (← same, ← count) before
read_each-keeps reads adds P step (item d rest) n so_far whole before e =
    let p = bind-ok (reads so_far d) _ whole e in
    let count : suc n + items_len rest ≡ n + suc (items_len rest) = omega arith in
    rw (← count) (read_each-keeps reads adds P step rest (suc n) (adds so_far p.0) whole (step n so_far d p.0 before p.1) p.2)

-- an array is as long as its row lets it be
pub record HasLength (least most : ℕ) (items : Items) : Type 0 where
  pub some : least ≤ items_len items
  pub few : items_len items ≤ most

pub array_of-ok : (least most : ℕ) (d : Data) (items : Items) → array_of least most d ≡ Ok items → HasLength least most items
array_of-ok least most d items e =
    let p = bind-ok (or_wrong_kind (as_array d)) _ items e in
    let q = cond-ok (nat_le least (items_len p.0) && nat_le (items_len p.0) most) p.0 items _ p.2 in
    rw (← q.1) (record { some = grind (arith, nat_tests, q.0); few = grind (arith, nat_tests, q.0) })

pub tables-ok : (key : Key) (most : ℕ) (place : Place) (t : Members) (items : Items) → value_of (row_tables key most) place t ≡ Ok items → items_len items ≤ most
tables-ok key most place t items e =
    elim (value_of-ok (row_tables key most) place t items e) [
      | inl none ↦ let same : no_items ≡ items = cc in rw (← same) (omega arith)
      | inr p ↦ let long = array_of-ok 0 most p.0 items p.1 in long.few
    ]
