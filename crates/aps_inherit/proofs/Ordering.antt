-- Lists of numbers, each at most once.
use Rattle.std.proofs.Common.{◌≡◌, ◌≢◌, ℕ, ◌+◌, List, [], ◌∷◌, length, sym, ◌∙◌, ap, refl, Bool, true, false, cond, nat_eq, ◌||◌, arith, inl, inr, Option, Some, None}
use Rattle.std.proofs.lemmas.Bool.{cases_eq, or_parts}
use Rattle.std.proofs.lemmas.Bool.Decides.{nat_tests}
use Rattle.aps_inherit.specs.Order.{AreApart, after_in, first_of, from_on, has, rest_of, order_without}

pub test_ne : (a b : ℕ) → a ≢ b → nat_eq a b ≡ false
test_ne a b ne = grind (arith, nat_tests)

pub test_eq : (a b : ℕ) → a ≡ b → nat_eq a b ≡ true
test_eq a b e = grind (arith, nat_tests)

pub ne_from_test : (a b : ℕ) → nat_eq a b ≡ false → a ≢ b
ne_from_test a b e = grind (arith, nat_tests)

-- what a list has not, its head is not
pub head_ne : (x y : ℕ) (xs : List ℕ) → has (x ∷ xs) y ≡ false → x ≢ y
head_ne x y xs h = ne_from_test x y (or_parts (nat_eq x y) (has xs y) h).0

pub tail_has_not : (x y : ℕ) (xs : List ℕ) → has (x ∷ xs) y ≡ false → has xs y ≡ false
tail_has_not x y xs h = (or_parts (nat_eq x y) (has xs y) h).1

-- a list that has one number but not the other
pub has_ne : (xs : List ℕ) (a b : ℕ) → has xs a ≡ true → has xs b ≡ false → a ≢ b
has_ne xs a b h off e = both (has xs a) h (ap (has xs) e ∙ off)
  where
    both : (t : Bool) → t ≡ true → t ≡ false → ⊥
    both t p q = cc

pub has-here : (x y : ℕ) (xs : List ℕ) → x ≡ y → has (x ∷ xs) y ≡ true
has-here x y xs e = ap (λ b. b || has xs y) (test_eq x y e)

pub has-past : (x y : ℕ) (xs : List ℕ) → x ≢ y → has (x ∷ xs) y ≡ has xs y
has-past x y xs ne = ap (λ b. b || has xs y) (test_ne x y ne)

pub without-here : (x y : ℕ) (xs : List ℕ) → x ≡ y → order_without (x ∷ xs) y ≡ xs
without-here x y xs e = ap (λ b. cond b xs (x ∷ order_without xs y)) (test_eq x y e)

pub without-past : (x y : ℕ) (xs : List ℕ) → x ≢ y → order_without (x ∷ xs) y ≡ x ∷ order_without xs y
without-past x y xs ne = ap (λ b. cond b xs (x ∷ order_without xs y)) (test_ne x y ne)

-- what is not in a list is in no part of it
pub has-without : (xs : List ℕ) (x y : ℕ) → has xs y ≡ false → has (order_without xs x) y ≡ false
has-without [] x y h = refl
has-without (z ∷ zs) x y h = elim (cases_eq z x) as (λ _. has (order_without (z ∷ zs) x) y ≡ false) [
  | inl e ↦ ap (λ l. has l y) (without-here z x zs e) ∙ tail_has_not z y zs h
  | inr ne ↦
      ap (λ l. has l y) (without-past z x zs ne)
      ∙ has-past z y (order_without zs x) (head_ne z y zs h)
      ∙ has-without zs x y (tail_has_not z y zs h)
]

pub has_not-without : (xs : List ℕ) (x : ℕ) → AreApart xs → has (order_without xs x) x ≡ false
has_not-without [] x h = refl
has_not-without (z ∷ zs) x h = elim (cases_eq z x) as (λ _. has (order_without (z ∷ zs) x) x ≡ false) [
  | inl e ↦ ap (λ l. has l x) (without-here z x zs e) ∙ ap (has zs) (sym e) ∙ h.0
  | inr ne ↦
      ap (λ l. has l x) (without-past z x zs ne)
      ∙ has-past z x (order_without zs x) ne
      ∙ has_not-without zs x h.1
]

pub AreApart-without : (xs : List ℕ) (x : ℕ) → AreApart xs → AreApart (order_without xs x)
AreApart-without [] x h = tt
AreApart-without (z ∷ zs) x h = elim (cases_eq z x) as (λ _. AreApart (order_without (z ∷ zs) x)) [
  | inl e ↦ rw (without-here z x zs e) h.1
  | inr ne ↦ rw (without-past z x zs ne) (has-without zs x z h.0, AreApart-without zs x h.1)
]

pub length-without : (xs : List ℕ) (x : ℕ) → has xs x ≡ true → length (order_without xs x) + 1 ≡ length xs
length-without [] x h = cc
length-without (z ∷ zs) x h = elim (cases_eq z x) as (λ _. length (order_without (z ∷ zs) x) + 1 ≡ length (z ∷ zs)) [
  | inl e ↦ rw (without-here z x zs e) (omega arith)
  | inr ne ↦
      let more = length-without zs x (sym (has-past z x zs ne) ∙ h) in
      rw (without-past z x zs ne) (omega arith)
]

-- ---- what is left from a place on

pub from_on-here : (x y : ℕ) (xs : List ℕ) → x ≡ y → from_on (x ∷ xs) y ≡ x ∷ xs
from_on-here x y xs e = ap (λ b. cond b (x ∷ xs) (from_on xs y)) (test_eq x y e)

pub from_on-past : (x y : ℕ) (xs : List ℕ) → x ≢ y → from_on (x ∷ xs) y ≡ from_on xs y
from_on-past x y xs ne = ap (λ b. cond b (x ∷ xs) (from_on xs y)) (test_ne x y ne)

pub rest_of-first : (xs : List ℕ) → rest_of xs (first_of xs) ≡ xs
rest_of-first [] = refl
rest_of-first (x ∷ xs) = from_on-here x x xs refl

-- from a number that is there on, the list is that number and what comes after it
pub from_on-next : (xs : List ℕ) (y : ℕ) → AreApart xs → has xs y ≡ true → from_on xs y ≡ y ∷ rest_of xs (after_in xs y)
from_on-next [] y apart h = cc
from_on-next (x ∷ xs) y apart h = elim (cases_eq x y) as (λ _. from_on (x ∷ xs) y ≡ y ∷ rest_of (x ∷ xs) (after_in (x ∷ xs) y)) [
  | inl e ↦
      from_on-here x y xs e
      ∙ ap (λ z. z ∷ xs) e
      ∙ ap (λ l. y ∷ l) (sym (rest_of-first xs) ∙ sym (rest_of-past (first_of xs) (firsts xs apart.0)))
      ∙ ap (λ (o : Option ℕ). y ∷ rest_of (x ∷ xs) o) (sym (after_here e))
  | inr ne ↦
      let there : has xs y ≡ true = sym (has-past x y xs ne) ∙ h in
      from_on-past x y xs ne
      ∙ from_on-next xs y apart.1 there
      ∙ ap (λ l. y ∷ l) (sym (rest_of-past (after_in xs y) (afters xs y apart.0)))
      ∙ ap (λ (o : Option ℕ). y ∷ rest_of (x ∷ xs) o) (sym (after_past ne))
]
  where
    after_here : x ≡ y → after_in (x ∷ xs) y ≡ first_of xs
    after_here e = ap (λ b. cond b (first_of xs) (after_in xs y)) (test_eq x y e)

    after_past : x ≢ y → after_in (x ∷ xs) y ≡ after_in xs y
    after_past ne = ap (λ b. cond b (first_of xs) (after_in xs y)) (test_ne x y ne)

    rest_of-past : (o : Option ℕ) → ((z : ℕ) → o ≡ Some z → x ≢ z) → rest_of (x ∷ xs) o ≡ rest_of xs o
    rest_of-past None h = refl
    rest_of-past (Some z) h = from_on-past x z xs (h z refl)

    same : (a b : ℕ) → Some a ≡ Some b → a ≡ b
    same a b e = cc

    none_some : (z : ℕ) → let o : Option ℕ = None in o ≡ Some z → ⊥
    none_some z e = cc

    firsts : (ys : List ℕ) → has ys x ≡ false → (z : ℕ) → first_of ys ≡ Some z → x ≢ z
    firsts [] h z e = absurd (none_some z e)
    firsts (w ∷ ws) h z e = λ eq. head_ne w x ws h (same w z e ∙ sym eq)

    afters : (ys : List ℕ) (w : ℕ) → has ys x ≡ false → (z : ℕ) → after_in ys w ≡ Some z → x ≢ z
    afters [] w h z e = absurd (none_some z e)
    afters (v ∷ vs) w h z e = elim (cases_eq v w) [
      | inl is ↦ firsts vs (tail_has_not v x vs h) z (sym (ap (λ b. cond b (first_of vs) (after_in vs w)) (test_eq v w is)) ∙ e)
      | inr ne ↦ afters vs w (tail_has_not v x vs h) z (sym (ap (λ b. cond b (first_of vs) (after_in vs w)) (test_ne v w ne)) ∙ e)
    ]
