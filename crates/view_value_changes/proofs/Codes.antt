-- Different signals have different codes.
use Rattle.std.proofs.Common.{◌≡◌, ℕ, ◌+◌, ◌-◌, ◌/◌, ◌%◌, ◌<◌, List, [], ◌∷◌, get_or, Bool, true, false, cond, nat_lt, min, refl, sym, ap, ◌∙◌, arith}
use Rattle.std.proofs.lemmas.Bool.Decides.{nat_tests}
use Rattle.view_value_changes.specs.Code.{signal_code, code_count, digit}

first_by : (t : Bool) (a b : ℕ) → get_or (cond t (a ∷ []) (a ∷ b ∷ [])) 0 0 ≡ a
first_by true a b = refl
first_by false a b = refl

second_by : (t : Bool) (a b : ℕ) → get_or (cond t (a ∷ []) (a ∷ b ∷ [])) 1 0 ≡ cond t 0 b
second_by true a b = refl
second_by false a b = refl

-- by the second digits
same_place : (i j : ℕ) (s t : Bool) → i < code_count → j < code_count → nat_lt i 94 ≡ s → nat_lt j 94 ≡ t → i % 94 ≡ j % 94
    → cond s 0 (33 + min (i / 94 - 1) 93) ≡ cond t 0 (33 + min (j / 94 - 1) 93) → i ≡ j
same_place i j true true small other short long units places = grind (arith, nat_tests)
same_place i j true false small other short long units places = absurd (omega (arith, places))
same_place i j false true small other short long units places = absurd (omega (arith, places))
same_place i j false false small other short long units places = grind (arith, nat_tests)

pub codes_differ : (i j : ℕ) → i < code_count → j < code_count → signal_code i ≡ signal_code j → i ≡ j
codes_differ i j small other same =
    let units : 33 + i % 94 ≡ 33 + j % 94 =
    sym (first_by (nat_lt i 94) (digit (i % 94)) (digit (min (i / 94 - 1) 93))) ∙ ap (λ (l : List ℕ). get_or l 0 0) same ∙ first_by (nat_lt j 94) (digit (j % 94)) (digit (min (j / 94 - 1) 93)) in
    let places : cond (nat_lt i 94) 0 (33 + min (i / 94 - 1) 93) ≡ cond (nat_lt j 94) 0 (33 + min (j / 94 - 1) 93) =
    sym (second_by (nat_lt i 94) (digit (i % 94)) (digit (min (i / 94 - 1) 93))) ∙ ap (λ (l : List ℕ). get_or l 1 0) same ∙ second_by (nat_lt j 94) (digit (j % 94)) (digit (min (j / 94 - 1) 93)) in
    same_place i j (nat_lt i 94) (nat_lt j 94) small other refl refl (omega (arith, units)) places
