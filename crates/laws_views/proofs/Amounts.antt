-- What a window has, by its allowance.
use Rattle.std.proofs.Common.{◌≡◌, ℕ, zero, suc, ◌+◌, ◌-◌, ◌*◌, ◌/◌, ◌%◌, ◌<◌, ◌≤◌, refl, sym, ◌∙◌, ap, subst, Bool, true, false, if◌then◌else◌, nat_eq, arith, ◌⊎◌, inl, inr}
use Rattle.std.proofs.Math.Nat.{div-add-mod, div-eq_of_eq-mul_left, le_of_mul-le-mul_left, lt_of_mul-lt-mul_left, mul-add, mul-pos, mul-zero, mul_assoc, mul_comm, zero-mul}
use Rattle.std.proofs.lemmas.Bool.{cases_eq, eqb-true}
use Rattle.std.proofs.lemmas.Bool.Decides.{nat_tests}
use Rattle.aps_model.specs.declared.shape.Shape.{Shape}
use Rattle.aps_model.specs.Audit.{allowance}
use Rattle.aps_model.specs.Limits.{microsecond, percent, thousandths}
use Rattle.aps_model.specs.Shape.{IsShape, whole}
use Rattle.laws_bounds.specs.Sums.{sum_below}

-- ---- allowances are whole numbers of ns

record IsMultiple (parts tick : ℕ) : Type 0 where
  times : ℕ
  is : tick ≡ times * parts
  some : 0 < parts

thousands : (tick : ℕ) → tick % microsecond ≡ 0 → microsecond * (tick / microsecond) ≡ tick
thousands tick even = let cut = div-add-mod tick microsecond in omega (arith, cut, even)

tick_parts : (parts tick : ℕ) → tick % microsecond ≡ 0 → (parts ≡ percent) ⊎ (parts ≡ thousandths) → IsMultiple parts tick
tick_parts parts tick even (inl is) =
    let cut = thousands tick even in
    record { times = tick / microsecond * 10; is = subst (λ n. tick ≡ tick / microsecond * 10 * n) (sym is) (omega (arith, cut)); some = omega (arith, is) }
tick_parts parts tick even (inr is) =
    let cut = thousands tick even in
    record { times = tick / microsecond; is = subst (λ n. tick ≡ tick / microsecond * n) (sym is) (omega (arith, cut)); some = omega (arith, is) }

exact_of : (parts budget lanes tick times : ℕ) → 0 < parts → tick ≡ times * parts → parts * (budget * (lanes * tick) / parts) ≡ budget * (lanes * tick)
exact_of parts budget lanes tick times some is =
    let k : ℕ = budget * (lanes * times) in
    let even : budget * (lanes * tick) ≡ k * parts =
    ap (λ n. budget * (lanes * n)) is ∙ ap (λ n. budget * n) (sym (mul_assoc lanes times parts)) ∙ sym (mul_assoc budget (lanes * times) parts) in
    let part : budget * (lanes * tick) / parts ≡ k = div-eq_of_eq-mul_left some even in
    ap (λ n. parts * n) part ∙ mul_comm parts k ∙ sym even

pub allowance_exact : (shape : Shape) (budget : ℕ) → IsShape shape → shape.parts * allowance shape budget ≡ budget * whole shape
allowance_exact shape budget is =
    let even = tick_parts shape.parts shape.tick is.tick_whole is.parts in
    exact_of shape.parts budget (shape.cpus * shape.window) shape.tick even.times even.some even.is

pub parts_some : (shape : Shape) → IsShape shape → 0 < shape.parts
parts_some shape is = (tick_parts shape.parts shape.tick is.tick_whole is.parts).some

pub whole_some : (shape : Shape) → IsShape shape → 0 < whole shape
whole_some shape is =
    let cpu = is.some_cpu in
    let long = is.window_long in
    let tick = is.tick_long in
    mul-pos (mul-pos (omega (arith, cpu)) (omega (arith, long))) (omega (arith, tick))

-- where there is no budget there is no allowance
pub none_allowed : (parts allowed budget time : ℕ) → 0 < parts → parts * allowed ≡ budget * time → budget ≡ 0 → allowed ≡ 0
none_allowed parts zero budget time some exact is = refl
none_allowed parts (suc n) budget time some exact is =
    let none : budget * time ≡ 0 = ap (λ k. k * time) is ∙ zero-mul time in
    let more : 0 < parts * suc n = mul-pos some (omega arith) in
    absurd (omega (arith, exact, none, more))

-- ---- above and below the allowance

pub beyond_some : (parts used allowed limit critical free time : ℕ) → 0 < time → parts * allowed ≡ limit → parts * used < limit + parts * (critical + time + free) → used - allowed - critical - free < time
beyond_some parts used allowed limit critical free time some exact less =
    let sum = mul-add parts allowed (critical + time + free) in
    let under : parts * used < parts * (allowed + (critical + time + free)) = omega (arith, exact, less, sum) in
    let at = lt_of_mul-lt-mul_left parts under in
    omega (arith, at, some)

pub beyond_none : (parts used allowed limit critical free time : ℕ) → 0 < time → 0 < parts → limit ≡ 0 → parts * used ≤ limit + parts * (critical + 0 + free) → used - allowed - critical - free < time
beyond_none parts used allowed limit critical free time some positive none less =
    let under : parts * used ≤ parts * (critical + 0 + free) = omega (arith, none, less) in
    let at = le_of_mul-le-mul_left under positive in
    omega (arith, at, some)

pub short_most : (parts used allowed limit slack : ℕ) → 0 < parts → parts * allowed ≡ limit → limit ≤ parts * used + parts * slack → allowed - used ≤ slack
short_most parts used allowed limit slack positive exact less =
    let sum = mul-add parts used slack in
    let under : parts * allowed ≤ parts * (used + slack) = omega (arith, exact, less, sum) in
    let at = le_of_mul-le-mul_left under positive in
    omega (arith, at)

-- ---- what others may take

by_tests : (own t u : Bool) (critical critical' time time' : ℕ) → (t ≡ false → u ≡ true → ⊥) → critical ≡ critical' → time ≡ time'
    → (if own then 0 else critical + (if t then 0 else time)) ≤ (if own then 0 else if u then critical' else critical' + time') + 0
by_tests true t u critical critical' time time' not_so same same' = omega arith
by_tests false true true critical critical' time time' not_so same same' = omega (arith, same)
by_tests false true false critical critical' time time' not_so same same' = omega (arith, same)
by_tests false false true critical critical' time time' not_so same same' = absurd (not_so refl refl)
by_tests false false false critical critical' time time' not_so same same' = omega (arith, same, same')

some_allowed : (parts all budget allowed : ℕ) → 0 < parts → 0 < all → parts * allowed ≡ budget * all → nat_eq budget 0 ≡ false → nat_eq allowed 0 ≡ true → ⊥
some_allowed parts all budget allowed positive some exact one two =
    let is : allowed ≡ 0 = eqb-true allowed 0 two in
    let none : parts * allowed ≡ 0 = ap (λ n. parts * n) is ∙ mul-zero parts in
    let there : 0 < budget = grind (arith, nat_tests, one) in
    let more : 0 < budget * all = mul-pos there some in
    omega (arith, exact, none, more)

-- one of them, by its budget and by its allowance
pub taken_most : (own : Bool) (parts all budget allowed critical critical' time time' : ℕ) → 0 < parts → 0 < all → parts * allowed ≡ budget * all → critical ≡ critical' → time ≡ time'
    → (if own then 0 else critical + (if nat_eq budget 0 then 0 else time)) ≤ (if own then 0 else if nat_eq allowed 0 then critical' else critical' + time') + 0
taken_most own parts all budget allowed critical critical' time time' positive some exact same same' =
    by_tests own (nat_eq budget 0) (nat_eq allowed 0) critical critical' time time' (some_allowed parts all budget allowed positive some exact) same same'

pub sum_wider : (n m : ℕ) (f : ℕ → ℕ) → n ≤ m → sum_below n f ≤ sum_below m f
sum_wider n zero f le = subst (λ k. sum_below k f ≤ 0) (sym none) (omega arith)
  where
    none : n ≡ 0
    none = omega (arith, le)
sum_wider n (suc m) f le = elim (cases_eq n (suc m)) [
  | inl same ↦ subst (λ k. sum_below k f ≤ sum_below (suc m) f) (sym same) (omega arith)
  | inr ne ↦ let rest = sum_wider n m f (omega (arith, le, ne)) in omega (arith, rest)
]
