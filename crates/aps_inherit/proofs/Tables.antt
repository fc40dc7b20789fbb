-- The order and the rows that stand for triples, as a triple comes and as one goes.
use Rattle.std.proofs.Common.{◌≡◌, ◌≢◌, ℕ, ◌<◌, ◌≤◌, List, [], ◌∷◌, length, sym, ◌∙◌, ap, refl, Bool, true, false, cond, nat_eq, ◌||◌, ◌⊎◌, arith, inl, inr, Option, Some, None, unwrap_or, slice_index_or, slice_set}
use Rattle.std.proofs.lemmas.Bool.{cases_eq}
use Rattle.std.proofs.lemmas.List.{get_or-set_same, get_or-set_other, length-set}
use Rattle.aps_model.specs.SchedulerState.{Triple}
use Rattle.aps_model.specs.Inherit.{IsFree, triple_of, without_server}
use Rattle.aps_model.specs.Limits.{last_thread}
use Rattle.aps_inherit.specs.Order.{AreApart, has, order_without}
use Rattle.aps_inherit.specs.Serving.{server_of, servers}
use Rattle.aps_inherit.specs.Table.{IsTable, no_triple, tabled}
use Rattle.aps_inherit.proofs.Ordering.{has_ne, test_eq, test_ne}
use Rattle.aps_inherit.proofs.Serving.{AreApart-servers, AreChains-without, server_of-without, servers-without, triple_of-here, triple_of-past, triple_of-without_other, triple_of-without_same}

row-set : {A : Type 0} (rows : List (Option A)) (x y : ℕ) (v : Option A) → x < length rows
    → slice_index_or (slice_set rows x v) y None ≡ cond (nat_eq x y) v (slice_index_or rows y None)
row-set rows x y v inside = elim (cases_eq x y) [
  | inl e ↦
      ap (λ n. slice_index_or (slice_set rows x v) n None) (sym e)
      ∙ get_or-set_same rows x v None inside
      ∙ sym (ap (λ b. cond b v (slice_index_or rows y None)) (test_eq x y e))
  | inr ne ↦
      get_or-set_other rows x y v None (λ e. ne (sym e))
      ∙ sym (ap (λ b. cond b v (slice_index_or rows y None)) (test_ne x y ne))
]

-- ---- the triples that rows stand for

tabled-rows : (by_server : List (Option Triple)) (ts : List Triple)
    → ((x : ℕ) → has (servers ts) x ≡ true → slice_index_or by_server x None ≡ triple_of ts x) → AreApart (servers ts)
    → tabled by_server (servers ts) ≡ ts
tabled-rows by_server [] rows apart = refl
tabled-rows by_server (t ∷ older) rows apart =
    ap (λ (u : Triple). u ∷ tabled by_server (servers older)) (ap (λ (o : Option Triple). unwrap_or o no_triple) here)
    ∙ ap (λ l. t ∷ l) (tabled-rows by_server older later apart.1)
  where
    here : slice_index_or by_server t.server None ≡ Some t
    here = rows t.server (ap (λ b. b || has (servers older) t.server) (test_eq t.server t.server refl))
        ∙ triple_of-here t older t.server refl

    more : (b c : Bool) → c ≡ true → (b || c) ≡ true
    more true c h = refl
    more false c h = h

    later : (x : ℕ) → has (servers older) x ≡ true → slice_index_or by_server x None ≡ triple_of older x
    later x there =
        rows x (more (nat_eq t.server x) (has (servers older) x) there)
        ∙ triple_of-past t older x (λ e. has_ne (servers older) x t.server there apart.0 (sym e))

pub tabled-table : (order : List ℕ) (by_server : List (Option Triple)) (by_client : List (Option ℕ)) (ts : List Triple)
    → IsTable order by_server by_client ts → tabled by_server order ≡ ts
tabled-table order by_server by_client ts h =
    ap (λ l. tabled by_server l) h.ordered ∙ tabled-rows by_server ts (λ x _. h.rows x) (AreApart-servers ts h.chains.made)

pub IsTable-tabled : (order : List ℕ) (by_server : List (Option Triple)) (by_client : List (Option ℕ)) (ts : List Triple)
    → IsTable order by_server by_client ts → IsTable order by_server by_client (tabled by_server order)
IsTable-tabled order by_server by_client ts h = rw (tabled-table order by_server by_client ts h) h

-- ---- a triple comes

pub IsTable-add : (order order' : List ℕ) (by_server : List (Option Triple)) (by_client : List (Option ℕ)) (ts : List Triple) (t : Triple)
    (server server_place client_place : ℕ)
    → IsTable order by_server by_client (tabled by_server order) → tabled by_server order ≡ ts
    → IsFree ts t.server → server_of ts t.client ≡ None → t.server ≢ t.client
    → order' ≡ server ∷ order → server ≡ t.server
    → server_place ≡ server → server_place ≤ last_thread → client_place ≡ t.client → client_place ≤ last_thread
    → IsTable order' (slice_set by_server server_place (Some t)) (slice_set by_client client_place (Some server)) (t ∷ ts)
IsTable-add order order' by_server by_client ts t server server_place client_place table is free alone other e1 e2 e3 small_s e4 small_c =
    rw (e3, e2, e4) (record {
      ordered = e1 ∙ ap (λ n. n ∷ order) e2 ∙ ap (λ l. t.server ∷ l) here.ordered;
      rows = λ x.
          row-set by_server t.server x (Some t) (omega (arith, here.rows_size))
          ∙ ap (λ (o : Option Triple). cond (nat_eq t.server x) (Some t) o) (here.rows x);
      above = λ x.
          row-set by_client t.client x (Some t.server) (omega (arith, here.above_size))
          ∙ ap (λ (o : Option ℕ). cond (nat_eq t.client x) (Some t.server) o) (here.above x);
      chains = record { made = (free, other, here.chains.made); once = (alone, here.chains.once) };
      rows_size = length-set by_server t.server (Some t) ∙ here.rows_size;
      above_size = length-set by_client t.client (Some t.server) ∙ here.above_size;
    })
  where
    here : IsTable order by_server by_client ts
    here = rw is at table

-- ---- a triple goes

pub IsTable-without : (order order' : List ℕ) (by_server : List (Option Triple)) (by_client : List (Option ℕ)) (ts : List Triple)
    (x : ℕ) (t : Triple)
    (server_place client_place : ℕ)
    → IsTable order by_server by_client (tabled by_server order) → tabled by_server order ≡ ts
    → triple_of ts x ≡ Some t → order' ≡ order_without order x
    → server_place ≡ x → server_place ≤ last_thread → client_place ≡ t.client → client_place ≤ last_thread
    → IsTable order' (slice_set by_server server_place None) (slice_set by_client client_place None) (without_server ts x)
IsTable-without order order' by_server by_client ts x t server_place client_place table is found e1 e2 small_s e3 small_c =
    rw (e2, e3) (record {
      ordered = e1 ∙ ap (λ l. order_without l x) here.ordered ∙ servers-without ts x;
      rows = λ y.
          row-set by_server x y None (omega (arith, here.rows_size))
          ∙ ap (λ (o : Option Triple). cond (nat_eq x y) None o) (here.rows y)
          ∙ gone y (cases_eq x y);
      above = λ y.
          row-set by_client t.client y None (omega (arith, here.above_size))
          ∙ ap (λ (o : Option ℕ). cond (nat_eq t.client y) None o) (here.above y)
          ∙ sym (server_of-without ts x y t here.chains.once found);
      chains = AreChains-without ts x here.chains;
      rows_size = length-set by_server x None ∙ here.rows_size;
      above_size = length-set by_client t.client None ∙ here.above_size;
    })
  where
    here : IsTable order by_server by_client ts
    here = rw is at table

    gone : (y : ℕ) → ((x ≡ y) ⊎ (x ≢ y)) → cond (nat_eq x y) None (triple_of ts y) ≡ triple_of (without_server ts x) y
    gone y (inl e) =
        ap (λ b. cond b None (triple_of ts y)) (test_eq x y e)
        ∙ sym (triple_of-without_same ts x here.chains.made)
        ∙ ap (triple_of (without_server ts x)) e
    gone y (inr ne) =
        ap (λ b. cond b None (triple_of ts y)) (test_ne x y ne)
        ∙ sym (triple_of-without_other ts x y ne)
