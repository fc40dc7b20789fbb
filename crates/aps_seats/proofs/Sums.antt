-- Sums over the views of all seats, and a function changed at one place.
use Rattle.std.proofs.Common.{◌≡◌, ◌≢◌, ℕ, zero, suc, ◌+◌, ◌%◌, ◌^◌, ◌<◌, ◌≤◌, ◌⊎◌, length, inl, inr, List, [], ◌∷◌, ◌++◌, set, sym, refl, ap, subst, ⊎_elim, arith}
use mathlib.Core.Option.{some, some-ne-none, some-injective}
use native.Mathlib.Decide.{ℕ_discrete, dec_le}
use lib.ListN.{get_elem?}
use Rattle.atomic_table.proofs.Lists.{at_set}
use Rattle.aps_seats.specs.Rule.{sum_of}

abbrev pick : {P : Type 0} → Dec P → ℕ → ℕ → ℕ
pick (yes _) a b = a
pick (no _) a b = b

pub put : (ℕ → ℕ) → ℕ → ℕ → ℕ → ℕ
put f i c j = pick (ℕ_discrete j i) c (f j)

pub put_here : (f : ℕ → ℕ) (i c : ℕ) → put f i c i ≡ c
unfolding put
put_here f i c = go (ℕ_discrete i i)
  where
    go : (d : Dec (i ≡ i)) → pick d c (f i) ≡ c
    go (yes _) = refl
    go (no n) = absurd (n refl)

pub put_else : (f : ℕ → ℕ) (i c j : ℕ) → j ≢ i → put f i c j ≡ f j
unfolding put
put_else f i c j other = go (ℕ_discrete j i)
  where
    go : (d : Dec (j ≡ i)) → pick d c (f j) ≡ f j
    go (yes e) = absurd (other e)
    go (no _) = refl

-- two counts within a turn of the word are one
pub one_place : (s k : ℕ) → s < 2 ^ 64 → k < 2 ^ 64 → (s + k) % 2 ^ 64 ≡ s → k ≡ 0
one_place s k a b e = omega arith

-- the function f, but n from low on and before high
pub deal : (ℕ → ℕ) → ℕ → ℕ → ℕ → ℕ → ℕ
deal f low high n c = pick (dec_le low c) (pick (dec_le high c) (f c) n) (f c)

pub deal_in : (f : ℕ → ℕ) (low high n c : ℕ) → low ≤ c → c < high → deal f low high n c ≡ n
unfolding deal
deal_in f low high n c a b = go (dec_le low c) (dec_le high c)
  where
    go : (d : Dec (low ≤ c)) (e : Dec (high ≤ c)) → pick d (pick e (f c) n) (f c) ≡ n
    go (yes _) (yes h) = absurd (omega arith)
    go (yes _) (no _) = refl
    go (no h) e = absurd (h a)

pub deal_out : (f : ℕ → ℕ) (low high n c : ℕ) → (c < low) ⊎ (high ≤ c) → deal f low high n c ≡ f c
unfolding deal
deal_out f low high n c out = go (dec_le low c) (dec_le high c)
  where
    go : (d : Dec (low ≤ c)) (e : Dec (high ≤ c)) → pick d (pick e (f c) n) (f c) ≡ f c
    go (yes _) (yes h) = refl
    go (yes l) (no h) = absurd (⊎_elim (λ (a : c < low). let z : ⊥ = omega arith in z) (λ (a : high ≤ c). h a) out)
    go (no h) e = refl

module _ {V : Type 0} where
  pub sum_set : (f : V → ℕ) (vs : List V) (j : ℕ) (v w : V) → get_elem? vs j ≡ some v → sum_of f (set vs j w) + f v ≡ sum_of f vs + f w
  sum_set f [] j v w at = absurd (some-ne-none v (sym at))
  sum_set f (x ∷ xs) zero v w at = omega (arith, ap f (some-injective x v at))
  sum_set f (x ∷ xs) (suc j) v w at = omega (arith, sum_set f xs j v w at)

  pub sum_snoc : (f : V → ℕ) (vs : List V) (w : V) → sum_of f (vs ++ w ∷ []) ≡ sum_of f vs + f w
  sum_snoc f [] w = omega arith
  sum_snoc f (x ∷ xs) w = omega (arith, sum_snoc f xs w)

  pub sum_le : (f g : V → ℕ) (vs : List V) → ((j : ℕ) (v : V) → get_elem? vs j ≡ some v → f v ≤ g v) → sum_of f vs ≤ sum_of g vs
  sum_le f g [] each = omega arith
  sum_le f g (x ∷ xs) each = omega (arith, each 0 x refl, sum_le f g xs (λ j v at. each (suc j) v at))

  -- what holds of the view w, and of each other view, holds of each after a change of one
  pub seats_stay : (K : ℕ → V → Type 0) (vs : List V) (me : ℕ) (w : V) → K me w → ((j : ℕ) (d : V) → j ≢ me → get_elem? vs j ≡ some d → K j d)
      → (j : ℕ) (d : V) → get_elem? (set vs me w) j ≡ some d → K j d
  seats_stay K vs me w mine others j d e = ⊎_elim (λ (t : (j ≡ me) × (w ≡ d)). subst (λ (x : ℕ × V). K x.0 x.1) (λ i. (sym t.0 i, t.1 i)) mine)
      (λ (t : (j ≢ me) × (get_elem? vs j ≡ some d)). others j d t.0 t.1) (at_set vs me j w d e)

  pub set_there : (vs : List V) (i : ℕ) (v w : V) → get_elem? vs i ≡ some v → get_elem? (set vs i w) i ≡ some w
  set_there [] i v w at = absurd (some-ne-none v (sym at))
  set_there (x ∷ xs) zero v w at = refl
  set_there (x ∷ xs) (suc i) v w at = set_there xs i v w at

  pub snoc_at : (vs : List V) (a b : V) (j : ℕ) → get_elem? (vs ++ a ∷ []) j ≡ some b → ((get_elem? vs j ≡ some b) × (j < length vs)) ⊎ ((a ≡ b) × (j ≡ length vs))
  snoc_at [] a b zero e = inr (some-injective a b e, refl)
  snoc_at [] a b (suc j) e = absurd (some-ne-none b (sym e))
  snoc_at (x ∷ xs) a b zero e = inl (e, omega arith)
  snoc_at (x ∷ xs) a b (suc j) e = ⊎_elim (λ (t : (get_elem? xs j ≡ some b) × (j < length xs)). inl (t.0, omega (arith, t.1))) (λ (t : (a ≡ b) × (j ≡ length xs)). inr (t.0, ap suc t.1)) (snoc_at xs a b j e)

  pub there_lt : (vs : List V) (j : ℕ) (v : V) → get_elem? vs j ≡ some v → j < length vs
  there_lt [] j v e = absurd (some-ne-none v (sym e))
  there_lt (x ∷ xs) zero v e = omega arith
  there_lt (x ∷ xs) (suc j) v e = omega (arith, there_lt xs j v e)
