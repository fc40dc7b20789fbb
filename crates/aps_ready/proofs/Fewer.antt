use Rattle.std.proofs.Common.{◌≡◌, ◌≢◌, inl, inr, ℕ, zero, suc, ◌+◌, ◌<◌, ◌≤◌, Bool, true, false, cond, ◌&&◌, not, nat_eq, refl, sym, ◌∙◌, ap, arith}
use Rattle.std.proofs.lemmas.Bool.{cases_eq}
use Rattle.std.proofs.lemmas.Bool.Decides.{nat_tests}

-- what one number adds
abbrev weight : Bool → ℕ
weight t = cond t 1 0

-- how many numbers below n are in the set
pub size : (ℕ → Bool) → ℕ → ℕ
size set zero = 0
size set (suc n) = weight (set n) + size set n

-- the set without one
abbrev pub IsWithout : (ℕ → Bool) → (ℕ → Bool) → ℕ → Type 0
IsWithout before after m = (k : ℕ) → after k ≡ (not (nat_eq k m) && before k)

same_self : (m : ℕ) → nat_eq m m ≡ true
same_self m = grind (arith, nat_tests)

not_equal : (a b : ℕ) → a ≢ b → nat_eq a b ≡ false
not_equal a b h = grind (arith, nat_tests)

pub is_out : (before after : ℕ → Bool) (m : ℕ) → IsWithout before after m → after m ≡ false
is_out before after m without = without m ∙ ap (λ (t : Bool). not t && before m) (same_self m)

pub stays : (before after : ℕ → Bool) (m k : ℕ) → IsWithout before after m → k ≢ m → after k ≡ before k
stays before after m k without ne = without k ∙ ap (λ (t : Bool). not t && before k) (not_equal k m ne)

-- whoever is in after was in before
pub was_in : (before after : ℕ → Bool) (m k : ℕ) → IsWithout before after m → after k ≡ true → before k ≡ true
was_in before after m k without h = second (not (nat_eq k m)) (before k) (sym (without k) ∙ h)
  where
    second : (a b : Bool) → (a && b) ≡ true → b ≡ true
    second true b p = p
    second false b p = absurd cc

-- whoever is out after and was in before is the one
pub is_one : (before after : ℕ → Bool) (m k : ℕ) → IsWithout before after m → before k ≡ true → after k ≡ false → k ≡ m
is_one before after m k without here gone = elim (cases_eq k m) [
  | inl same ↦ same
  | inr ne ↦ absurd (clash (before k) here (sym (stays before after m k without ne) ∙ gone))
]
  where
    clash : (t : Bool) → t ≡ true → t ≡ false → ⊥
    clash t p q = cc

size_same : (before after : ℕ → Bool) (m n : ℕ) → IsWithout before after m → n ≤ m → size after n ≡ size before n
unfolding size
size_same before after m zero without below = refl
size_same before after m (suc n) without below =
    let rest : size after n ≡ size before n = size_same before after m n without (omega (arith, below)) in
    let here : after n ≡ before n = stays before after m n without (λ e. omega (arith, below, e)) in
    ap (λ (t : Bool). weight t + size after n) here ∙ ap (λ (k : ℕ). weight (before n) + k) rest

-- a set without one of its numbers has fewer
pub fewer : (before after : ℕ → Bool) (m n : ℕ) → IsWithout before after m → before m ≡ true → m < n → size after n < size before n
unfolding size
fewer before after m zero without here below = absurd (omega (arith, below))
fewer before after m (suc n) without here below = elim (cases_eq n m) [
  | inl same ↦
      let rest : size after n ≡ size before n = size_same before after m n without (omega (arith, same)) in
      let out : weight (after n) ≡ 0 = ap weight (ap after same ∙ is_out before after m without) in
      let one : weight (before n) ≡ 1 = ap weight (ap before same ∙ here) in
      omega (arith, rest, out, one)
  | inr ne ↦
      let rest : size after n < size before n = fewer before after m n without here (omega (arith, below, ne)) in
      let equal : weight (after n) ≡ weight (before n) = ap weight (stays before after m n without ne) in
      omega (arith, rest, equal)
]

-- ---- how many there can be

pub at_most : (set : ℕ → Bool) (n : ℕ) → size set n ≤ n
unfolding size
at_most set zero = omega arith
at_most set (suc n) = omega (arith, at_most set n, light (set n))
  where
    light : (t : Bool) → weight t ≤ 1
    light true = omega arith
    light false = omega arith

-- different numbers of a set are as many as it has at most
as_many : (set : ℕ → Bool) (f : ℕ → ℕ) (width count : ℕ) → ((n : ℕ) → n < count → f n < width) → ((n : ℕ) → n < count → set (f n) ≡ true)
    → ((m n : ℕ) → m < count → n < count → f m ≡ f n → m ≡ n) → count ≤ size set width
as_many set f width zero below here one = omega arith
as_many set f width (suc c) below here one =
    let less = fewer set rest (f c) width (λ k. refl) (here c (omega arith)) (below c (omega arith)) in
    let more = as_many rest f width c (λ n h. below n (omega (arith, h))) in_rest
    (λ m n g h. one m n (omega (arith, g)) (omega (arith, h))) in
    omega (arith, less, more)
  where
    rest : ℕ → Bool
    rest k = not (nat_eq k (f c)) && set k

    in_rest : (n : ℕ) → n < c → rest (f n) ≡ true
    in_rest n h =
        ap (λ (t : Bool). not t && set (f n)) (not_equal (f n) (f c) (λ same. omega (arith, h, one n c (omega (arith, h)) (omega arith) same)))
        ∙ here n (omega (arith, h))
