-- How often a number stands among others.
use Rattle.std.proofs.Common.{◌≡◌, ◌≢◌, ℕ, zero, suc, ◌+◌, ◌<◌, ◌≤◌, List, [], ◌∷◌, ◌++◌, length, refl, sym, ◌∙◌, ap, subst, Bool, true, false, cond, nat_eq, Option, Some, None, arith, inl, inr}
use Rattle.std.proofs.lemmas.Bool.{cases_eq}
use Rattle.laws_runs.specs.Waits.{one_if, times}
use Rattle.laws_runs.proofs.WaitFacts.{test_eq, test_ne}
use Rattle.aps_channel.specs.Lines.{without}

pub one_same : (x : ℕ) → one_if (nat_eq x x) ≡ 1
one_same x = ap one_if (test_eq x x refl)

pub one_here : (x : ℕ) (xs : List ℕ) → 1 ≤ times x (x ∷ xs)
one_here x xs = omega (arith, one_same x)

pub zero_test : (t : Bool) → one_if t ≡ 0 → t ≡ false
zero_test true h = absurd (omega (arith, h))
zero_test false h = refl

-- who stands not among these isn't their first
pub first_ne : (x y : ℕ) (ys : List ℕ) → times x (y ∷ ys) ≡ 0 → nat_eq y x ≡ false
first_ne x y ys h = zero_test (nat_eq y x) (omega (arith, h))

pub ne_from_none : (x y : ℕ) (ys : List ℕ) → times x (y ∷ ys) ≡ 0 → y ≢ x
ne_from_none x y ys h e = omega (arith, h, ap one_if (test_eq y x e))

pub times-without : (y x : ℕ) (xs : List ℕ) → 1 ≤ times x xs → times y xs ≡ times y (without x xs) + one_if (nat_eq x y)
times-without y x [] h = absurd (omega arith)
times-without y x (z ∷ zs) h = elim (cases_eq z x) [
  | inl e ↦
      subst (λ t. one_if (nat_eq z y) + times y zs ≡ times y (cond t zs (z ∷ without x zs)) + one_if (nat_eq x y)) (sym (test_eq z x e))
      (omega (arith, ap (λ k. one_if (nat_eq k y)) e))
  | inr ne ↦
      subst (λ t. one_if (nat_eq z y) + times y zs ≡ times y (cond t zs (z ∷ without x zs)) + one_if (nat_eq x y)) (sym (test_ne z x ne))
      (omega (arith, times-without y x zs (omega (arith, h, ap one_if (test_ne z x ne)))))
]

-- ---- distinct numbers below a number

total : (ℕ → ℕ) → ℕ → ℕ
total f zero = 0
total f (suc n) = total f n + f n

total_few : (f : ℕ → ℕ) (n : ℕ) → ((y : ℕ) → f y ≤ 1) → total f n ≤ n
unfolding total
total_few f zero once = omega arith
total_few f (suc n) once = let a = total_few f n once in let b = once n in omega (arith, a, b)

total_both : (f g : ℕ → ℕ) (n : ℕ) → total (λ y. f y + g y) n ≡ total f n + total g n
unfolding total
total_both f g zero = refl
total_both f g (suc n) = let a = total_both f g n in omega (arith, a)

total_one : (x n : ℕ) → x < n → 1 ≤ total (λ y. one_if (nat_eq x y)) n
unfolding total
total_one x zero lt = absurd (omega (arith, lt))
total_one x (suc n) lt =
    elim (cases_eq x n) [
      | inl same ↦ let e = ap one_if (test_eq x n same) in omega (arith, e)
      | inr other ↦ let a = total_one x n (omega (arith, lt, other)) in omega (arith, a)
    ]

length_total : (n : ℕ) (xs : List ℕ) → ((y : ℕ) → 1 ≤ times y xs → y < n) → length xs ≤ total (λ y. times y xs) n
length_total n [] within = omega arith
length_total n (x ∷ xs) within =
    let here = total_one x n (within x (one_here x xs)) in
    let rest = length_total n xs (λ y l. within y (omega (arith, l))) in
    let both = total_both (λ y. one_if (nat_eq x y)) (λ y. times y xs) n in
    omega (arith, here, rest, both)

-- distinct numbers below n are at most n
pub few_distinct : (n : ℕ) (xs : List ℕ) → ((y : ℕ) → 1 ≤ times y xs → y < n) → ((y : ℕ) → times y xs ≤ 1) → length xs ≤ n
few_distinct n xs within once = omega (arith, length_total n xs within, total_few (λ y. times y xs) n once)
