-- The first number that passes a test.
use Rattle.std.proofs.Common.{◌≡◌, ℕ, suc, ◌+◌, ◌-◌, ◌<◌, ◌≤◌, Bool, true, false, Some, None, refl, ap, ◌∙◌, arith}
use Rattle.std.specs.List.{find, range_with_len}

find_here : (f : ℕ → Bool) (k n : ℕ) → f k ≡ true → find f (range_with_len k (suc n)) ≡ Some k
find_here f k n holds = rw holds refl

find_next : (f : ℕ → Bool) (k n : ℕ) → f k ≡ false → find f (range_with_len k (suc n)) ≡ find f (range_with_len (k + 1) n)
find_next f k n fails = rw fails refl

one_less : (k end : ℕ) → k < end → end - k ≡ suc (end - (k + 1))
one_less k end below = omega arith

-- it is found at k
pub found : (f : ℕ → Bool) (k end : ℕ) → k < end → f k ≡ true → find f (range_with_len k (end - k)) ≡ Some k
found f k end below holds = ap (λ n. find f (range_with_len k n)) (one_less k end below) ∙ find_here f k (end - (k + 1)) holds

-- it stands behind k
pub further : (f : ℕ → Bool) (k end : ℕ) → k < end → f k ≡ false → find f (range_with_len k (end - k)) ≡ find f (range_with_len (k + 1) (end - (k + 1)))
further f k end below fails = ap (λ n. find f (range_with_len k n)) (one_less k end below) ∙ find_next f k (end - (k + 1)) fails

-- there is none
pub nowhere : (f : ℕ → Bool) (k end : ℕ) → end ≤ k → find f (range_with_len k (end - k)) ≡ None
nowhere f k end past = ap (λ n. find f (range_with_len k n)) (none k end past)
  where
    none : (k end : ℕ) → end ≤ k → end - k ≡ 0
    none k end past = omega arith
