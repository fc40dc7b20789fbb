-- The pass over the servers, from the newest triple to the oldest.
use Rattle.std.proofs.Common.{◌≡◌, ◌≢◌, ◌⊎◌, inl, inr, ℕ, ◌∙◌, List, [], ◌∷◌, Bool, true, false, cond, refl, sym, ap, subst, nat_eq, ◌||◌, Option, Some, None}
use Rattle.std.proofs.lemmas.Bool.{cases_eq}
use Rattle.aps_model.specs.Inherit.{Inheritance, client_of}
use Rattle.aps_model.specs.SchedulerState.{Triple}
use Rattle.aps_inherit.specs.Order.{IsThere, after_in, first_of, has, rest_of}
use Rattle.aps_inherit.specs.Serving.{AreChains, servers}
use Rattle.aps_inherit.proofs.Ordering.{has-past, rest_of-first}
use Rattle.aps_inherit.proofs.Values.{rest_now}

-- who holds a client is a server
serves_has : (ts : List Triple) (x : ℕ) → client_of ts x ≢ None → has (servers ts) x ≡ true
serves_has [] x serves = absurd (serves refl)
serves_has (t ∷ older) x serves = by_test (nat_eq t.server x) serves (serves_has older x)
  where
    by_test : (b : Bool) → cond b (Some t.client) (client_of older x) ≢ None → (client_of older x ≢ None → has (servers older) x ≡ true) → (b || has (servers older) x) ≡ true
    by_test true serves rest = refl
    by_test false serves rest = rest serves

-- all of them are to come at the start
pub all_to_come : (ts : List Triple) (x : ℕ) (first : Option ℕ) → first ≡ first_of (servers ts) → client_of ts x ≢ None → has (rest_of (servers ts) first) x ≡ true
all_to_come ts x first is serves =
    ap (λ o. has (rest_of (servers ts) o) x) is ∙ ap (λ l. has l x) (rest_of-first (servers ts)) ∙ serves_has ts x serves

-- nobody is at the end
pub none_to_come : (ts : List Triple) (x : ℕ) (next : Option ℕ) (P : Type 0) → next ≡ None → (has (rest_of (servers ts) next) x ≡ true) ⊎ P → P
none_to_come ts x next P is both = elim both [
  | inl more ↦ absurd (clash (sym (ap (λ o. has (rest_of (servers ts) o) x) is) ∙ more))
  | inr done ↦ done
]
  where
    clash : false ≡ true → ⊥
    clash e = cc

-- one server is done, and each that was stays so
pub one_less : (i : Inheritance) (server y : ℕ) (now next : Option ℕ) (before after : ℕ → Type 0) → AreChains i.triples → now ≡ Some server → IsThere (servers i.triples) now
    → next ≡ after_in (servers i.triples) server → after server → (before y → after y)
    → (has (rest_of (servers i.triples) now) y ≡ true) ⊎ before y → (has (rest_of (servers i.triples) next) y ≡ true) ⊎ after y
one_less i server y now next before after chains is there goes_on done stays both = elim both [
  | inr was ↦ inr (stays was)
  | inl more ↦ elim (cases_eq server y) [
    | inl same ↦ inr (subst after same done)
    | inr other ↦
        inl (sym (has-past server y (rest_of (servers i.triples) next) other) ∙ sym (ap (λ l. has l y) (rest_now i server now next chains is there goes_on)) ∙ more)
  ]
]
