-- Ten times the parts change no test of a budget and no comparison of merits.
use Rattle.std.proofs.Common.{◌≡◌, ℕ, ◌*◌, refl, ◌∙◌, ap, arith, Bool, true, false, if◌then◌else◌, ◌&&◌, nat_lt, nat_le, nat_eq}
use Rattle.std.proofs.lemmas.Bool.Decides.{nat_tests}
use Rattle.aps_model.specs.declared.merit.Merit.{Merit}
use Rattle.aps_model.specs.declared.shape.Free.{Free}
use Rattle.aps_model.specs.declared.shape.Free.TheVariants.{Priority, Ratio}
use Rattle.aps_model.specs.Merit.{smaller, smaller_first, greater_first, is_greater, is_below}
use Rattle.aps_model.specs.Upgrade.{times_ten}

-- ---- numbers

pub lt_ten : (a b : ℕ) → nat_lt (a * 10) (b * 10) ≡ nat_lt a b
lt_ten a b = grind (arith, nat_tests)

pub le_ten : (a b : ℕ) → nat_le (a * 10) (b * 10) ≡ nat_le a b
le_ten a b = grind (arith, nat_tests)

pub some_ten : (a : ℕ) → nat_lt 0 (a * 10) ≡ nat_lt 0 a
some_ten a = grind (arith, nat_tests)

pub none_ten : (a : ℕ) → nat_eq (a * 10) 0 ≡ nat_eq a 0
none_ten a = grind (arith, nat_tests)

pub out_left : (a b : ℕ) → (a * 10) * b ≡ (a * b) * 10
out_left a b = omega arith

pub out_right : (a b : ℕ) → a * (b * 10) ≡ (a * b) * 10
out_right a b = omega arith

-- ---- fractions and merits

pub smaller_ten : (ua ba ub bb : ℕ) → smaller ua (times_ten ba) ub (times_ten bb) ≡ smaller ua ba ub bb
smaller_ten ua ba ub bb =
    ap (λ t. if t then false else if nat_eq (bb * 10) 0 then true else nat_lt (ua * (bb * 10)) (ub * (ba * 10))) (none_ten ba)
    ∙ ap (λ t. if nat_eq ba 0 then false else if t then true else nat_lt (ua * (bb * 10)) (ub * (ba * 10))) (none_ten bb)
    ∙ ap (λ n. if nat_eq ba 0 then false else if nat_eq bb 0 then true else nat_lt n (ub * (ba * 10))) (out_right ua bb)
    ∙ ap (λ n. if nat_eq ba 0 then false else if nat_eq bb 0 then true else nat_lt ((ua * bb) * 10) n) (out_right ub ba)
    ∙ ap (λ t. if nat_eq ba 0 then false else if nat_eq bb 0 then true else t) (lt_ten (ua * bb) (ub * ba))

abbrev pub merit_times_ten : Merit → Merit
merit_times_ten merit = record merit { budget = times_ten merit.budget }

first_ten : (a b : Merit) (rest : Bool) → smaller_first (merit_times_ten a) (merit_times_ten b) rest ≡ smaller_first a b rest
first_ten a b rest =
    ap (λ t. if t then true else if smaller b.used (times_ten b.budget) a.used (times_ten a.budget) then false else rest)
    (smaller_ten a.used a.budget b.used b.budget)
    ∙ ap (λ t. if smaller a.used a.budget b.used b.budget then true else if t then false else rest)
    (smaller_ten b.used b.budget a.used a.budget)

by_class : (a b : Merit) → is_greater Priority (merit_times_ten a) (merit_times_ten b) ≡ is_greater Priority a b
by_class a b =
    ap (λ rest. greater_first a.class b.class (greater_first a.priority b.priority rest)) (first_ten a b (nat_lt a.stamp b.stamp))

pub greater_ten : (free : Free) (a b : Merit) → is_greater free (merit_times_ten a) (merit_times_ten b) ≡ is_greater free a b
greater_ten Priority a b = by_class a b
greater_ten Ratio a b =
    ap (λ t. if nat_eq a.class 0 && nat_eq b.class 0 then t else is_greater Priority (merit_times_ten a) (merit_times_ten b))
    (first_ten a b (greater_first a.priority b.priority (nat_lt a.stamp b.stamp)))
    ∙ ap (λ t. if nat_eq a.class 0 && nat_eq b.class 0 then smaller_first a b (greater_first a.priority b.priority (nat_lt a.stamp b.stamp)) else t)
    (by_class a b)

pub below_ten : (free : Free) (a b : Merit) → is_below free (merit_times_ten a) (merit_times_ten b) ≡ is_below free a b
below_ten Priority a b = refl
below_ten Ratio a b = refl
