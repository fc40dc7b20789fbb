use Rattle.std.proofs.Common.{◌≡◌, ℕ, ◌<◌, Bool, true, false, refl, arith}
use Rattle.std.proofs.lemmas.Bool.Decides.{nat_tests}
use Rattle.aps_model.specs.declared.merit.Merit.{Merit}
use Rattle.aps_model.specs.Merit.{smaller}
use Rattle.aps_model.proofs.MeritOrder.{smaller_order}

-- ---- the order of fractions

abbrev fraction : ℕ → ℕ → Merit
fraction u b = record { class = 0; priority = 0; used = u; budget = b; stamp = 0 }

pub smaller_chain : (ux bx uy by' uz bz : ℕ) → smaller ux bx uy by' ≡ false → smaller uy by' uz bz ≡ false → smaller ux bx uz bz ≡ false
smaller_chain ux bx uy by' uz bz h k = smaller_order.chain (fraction ux bx) (fraction uy by') (fraction uz bz) h k

pub smaller_one_way : (ua ba ub bb : ℕ) → smaller ua ba ub bb ≡ true → smaller ub bb ua ba ≡ false
smaller_one_way ua ba ub bb h = smaller_order.one_way (fraction ua ba) (fraction ub bb) h

pub smaller_not_itself : (u b : ℕ) → smaller u b u b ≡ false
smaller_not_itself u b = grind (arith, nat_tests)

clash : (t : Bool) → t ≡ true → t ≡ false → ⊥
clash t p q = cc

-- x is smaller than z, and z isn't greater than y, so x is smaller than y
pub smaller_than_more : (ux bx uy by' uz bz : ℕ) → smaller ux bx uz bz ≡ true → smaller uy by' uz bz ≡ false → smaller ux bx uy by' ≡ true
smaller_than_more ux bx uy by' uz bz h k = by_test (smaller ux bx uy by') refl
  where
    by_test : (t : Bool) → smaller ux bx uy by' ≡ t → smaller ux bx uy by' ≡ true
    by_test true p = p
    by_test false p = absurd (clash (smaller ux bx uz bz) h (smaller_chain ux bx uy by' uz bz p k))

-- x is smaller than z, and y isn't greater than x, so y is smaller than z
pub not_more_than_smaller : (ux bx uy by' uz bz : ℕ) → smaller ux bx uz bz ≡ true → smaller ux bx uy by' ≡ false → smaller uy by' uz bz ≡ true
not_more_than_smaller ux bx uy by' uz bz h k = by_test (smaller uy by' uz bz) refl
  where
    by_test : (t : Bool) → smaller uy by' uz bz ≡ t → smaller uy by' uz bz ≡ true
    by_test true p = p
    by_test false p = absurd (clash (smaller ux bx uz bz) h (smaller_chain ux bx uy by' uz bz k p))

-- a fraction that is smaller has a budget
pub has_budget : (ua ba ub bb : ℕ) → smaller ua ba ub bb ≡ true → 0 < ba
has_budget ua ba ub bb h = grind (arith, nat_tests)
