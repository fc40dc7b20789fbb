-- Tests, and when a tick is among others.
use Rattle.std.proofs.Common.{◌≡◌, ℕ, ◌+◌, ◌<◌, ◌≤◌, Bool, true, false, ◌&&◌, ◌||◌, nat_le, refl, arith}
use Rattle.std.proofs.lemmas.Bool.Decides.{nat_tests}
use Rattle.aps_model.specs.Loaded.{is_among}

pub or_false : (b : Bool) → (b || false) ≡ b
or_false true = refl
or_false false = refl

pub and_false : (b : Bool) → (b && false) ≡ false
and_false true = refl
and_false false = refl

pub and_true : (b : Bool) → (b && true) ≡ b
and_true true = refl
and_true false = refl

pub or_assoc : (a b c : Bool) → (a || (b || c)) ≡ ((a || b) || c)
or_assoc true b c = refl
or_assoc false b c = refl

pub and_assoc : (a b c : Bool) → ((a && b) && c) ≡ (a && (b && c))
and_assoc true b c = refl
and_assoc false b c = refl

-- a test of two parts, here and in the rest
pub shuffled : (q x k y r s : Bool) → ((q && (x || (k && y))) || (r || (k && s))) ≡ (((q && x) || r) || (k && ((q && y) || s)))
shuffled true true k y r s = refl
shuffled true false true true true s = refl
shuffled true false true true false s = refl
shuffled true false true false true s = refl
shuffled true false true false false s = refl
shuffled true false false y true s = refl
shuffled true false false y false s = refl
shuffled false x true y r s = refl
shuffled false x false y r s = refl

pub among_split : (a j t : ℕ) → is_among a (j + 1) t ≡ (is_among a j t || (nat_le a j && is_among j (j + 1) t))
among_split a j t = grind (arith, nat_tests)

pub among_before : (j b t : ℕ) → t < j → is_among j b t ≡ false
among_before j b t early = grind (arith, nat_tests)

pub among_none : (a t : ℕ) → is_among a 0 t ≡ false
among_none a t = grind (arith, nat_tests)

pub among_same : (j t : ℕ) → t ≡ j → is_among j (j + 1) t ≡ true
among_same j t is = grind (arith, nat_tests)

pub among_after : (j t : ℕ) → j < t → is_among j (j + 1) t ≡ false
among_after j t far = grind (arith, nat_tests)

pub among_past : (a b t : ℕ) → b ≤ t → is_among a b t ≡ false
among_past a b t far = grind (arith, nat_tests)
