-- What a window may have more that begins inside a tick.
use Rattle.std.proofs.Common.{◌≡◌, ℕ, zero, suc, ◌+◌, ◌-◌, ◌*◌, ◌≤◌, ◌<◌, sym, ◌∙◌, ap, subst, max, min, arith, inl, inr, ◌⊎◌}
use Rattle.std.specs.List.{fold, range_with_len}
use Rattle.std.proofs.Math.Nat.{add-mul, mul-add, mul-le-mul_left, mul-le-mul_right, mul_comm, mul-zero}
use Rattle.std.proofs.lemmas.Bool.{cases_eq, cases_lt}
use Rattle.laws_load.specs.AnyMoment.{leap}

abbrev one_leap : ℕ → ℕ → ℕ → ℕ → ℕ
one_leap cpus tick late k = min ((cpus - k) * late) (k * (tick - late))

abbrev greatest_leap : ℕ → ℕ → ℕ → ℕ → ℕ → ℕ → ℕ
greatest_leap cpus tick late most a n = fold (λ most k. max most (one_leap cpus tick late k)) most (range_with_len a n)

leap_grows : (cpus tick late most a n : ℕ) → most ≤ greatest_leap cpus tick late most a n
leap_grows cpus tick late most a zero = omega arith
leap_grows cpus tick late most a (suc n) =
    let rest = leap_grows cpus tick late (max most (one_leap cpus tick late a)) (a + 1) n in
    at_least most (one_leap cpus tick late a) (greatest_leap cpus tick late (max most (one_leap cpus tick late a)) (a + 1) n) rest
  where
    at_least : (m k n : ℕ) → max m k ≤ n → m ≤ n
    at_least m k n le = omega (arith, le)

leap_from : (cpus tick late most a n k : ℕ) → a ≤ k → k < a + n → one_leap cpus tick late k ≤ greatest_leap cpus tick late most a n
leap_from cpus tick late most a zero k low high = absurd (omega (arith, low, high))
leap_from cpus tick late most a (suc n) k low high = elim (cases_eq k a) [
  | inl same ↦
      let here = leap_grows cpus tick late (max most (one_leap cpus tick late a)) (a + 1) n in
      subst (λ j. one_leap cpus tick late j ≤ greatest_leap cpus tick late most a (suc n)) (sym same)
      (at_least most (one_leap cpus tick late a) (greatest_leap cpus tick late (max most (one_leap cpus tick late a)) (a + 1) n) here)
  | inr ne ↦ leap_from cpus tick late (max most (one_leap cpus tick late a)) (a + 1) n k (omega (arith, low, ne)) (omega (arith, high))
]
  where
    at_least : (m k n : ℕ) → max m k ≤ n → k ≤ n
    at_least m k n le = omega (arith, le)

-- it is at least that of each number of processors
pub leap_of : (cpus tick late k : ℕ) → k ≤ cpus → one_leap cpus tick late k ≤ leap cpus tick late
leap_of cpus tick late k le = leap_from cpus tick late 0 0 (cpus + 1) k (omega arith) (omega (arith, le))

leap_most : (cpus tick late most a n times bound : ℕ) → times * most ≤ bound → ((k : ℕ) → a ≤ k → k < a + n → times * one_leap cpus tick late k ≤ bound) → times * greatest_leap cpus tick late most a n ≤ bound
leap_most cpus tick late most a zero times bound le each = le
leap_most cpus tick late most a (suc n) times bound le each =
    leap_most cpus tick late (max most (one_leap cpus tick late a)) (a + 1) n times bound
    (both most (one_leap cpus tick late a) le (each a (omega arith) (omega arith)))
    (λ k low high. each k (omega (arith, low)) (omega (arith, high)))
  where
    both : (m k : ℕ) → times * m ≤ bound → times * k ≤ bound → times * max m k ≤ bound
    both m k one two = elim (cases_lt m k) [
      | inl less ↦ subst (λ z. times * z ≤ bound) (omega (arith, less)) two
      | inr more ↦ subst (λ z. times * z ≤ bound) (omega (arith, more)) one
    ]

-- ---- it covers both lines

covers_within : (y z parts s cpus tick late k : ℕ) → k + s ≡ cpus → y ≤ z + parts * (late * s) → y + parts * ((tick - late) * s) ≤ z + parts * (cpus * (tick - late)) → y ≤ z + parts * leap cpus tick late
covers_within y z parts s cpus tick late k sum one two =
    let psi : ℕ = tick - late in
    let le : k ≤ cpus = omega (arith, sum) in
    let of = leap_of cpus tick late k le in
    let rest : cpus - k ≡ s = omega (arith, sum) in
    let of' : min (s * late) (k * psi) ≤ leap cpus tick late = subst (λ n. min (n * late) (k * psi) ≤ leap cpus tick late) rest of in
    let whole : cpus * psi ≡ k * psi + s * psi = ap (λ n. n * psi) (sym sum) ∙ add-mul k s psi in
    let two' : y + parts * (psi * s) ≤ z + (parts * (k * psi) + parts * (s * psi)) = subst (λ n. y + parts * (psi * s) ≤ z + n) (ap (λ n. parts * n) whole ∙ mul-add parts (k * psi) (s * psi)) two in
    let same : parts * (psi * s) ≡ parts * (s * psi) = ap (λ n. parts * n) (mul_comm psi s) in
    let second : y ≤ z + parts * (k * psi) = omega (arith, two', same) in
    let first : y ≤ z + parts * (s * late) = subst (λ n. y ≤ z + parts * n) (mul_comm late s) one in
    by_less (s * late) (k * psi) (leap cpus tick late) of' first second
  where
    by_less : (m n l : ℕ) → min m n ≤ l → y ≤ z + parts * m → y ≤ z + parts * n → y ≤ z + parts * l
    by_less m n l le one two = elim (cases_lt n m) [
      | inl less ↦
          let n_le : n ≤ l = omega (arith, le, less) in
          omega (arith, two, mul-le-mul_left parts n_le)
      | inr more ↦
          let m_le : m ≤ l = omega (arith, le, more) in
          omega (arith, one, mul-le-mul_left parts m_le)
    ]

-- where a sum is within so many times the late part, and with so many times the rest of a tick within that of all
-- processors, it is within a leap
pub leap_covers : (y z parts s cpus tick late : ℕ) → y ≤ z + parts * (late * s) → y + parts * ((tick - late) * s) ≤ z + parts * (cpus * (tick - late)) → y ≤ z + parts * leap cpus tick late
leap_covers y z parts s cpus tick late one two = elim (cases_lt cpus s) [
  | inl many ↦
      let wide : cpus * (tick - late) ≤ (tick - late) * s = subst (λ n. n ≤ (tick - late) * s) (mul_comm (tick - late) cpus) (mul-le-mul_left (tick - late) (omega (arith, many))) in
      omega (arith, two, mul-le-mul_left parts wide)
  | inr few ↦ covers_within y z parts s cpus tick late (cpus - s) (omega (arith, few)) one two
]

-- ---- it is small

-- with n at most d φ and at most k ψ, four times n is at most (d + k) (φ + ψ)
four_within : (d k f g n : ℕ) → n ≤ d * f → n ≤ k * g → 4 * n ≤ (d + k) * (f + g)
four_within d k f g n one two =
    let all : (d + k) * (f + g) ≡ (d * f + d * g) + (k * f + k * g) = add-mul d k (f + g) ∙ two_sums in
    omega (arith, all, one, two, cross (cases_lt d k) (cases_lt f g))
  where
    two_sums : d * (f + g) + k * (f + g) ≡ (d * f + d * g) + (k * f + k * g)
    two_sums = omega (arith, mul-add d f g, mul-add k f g)

    cross : (d < k) ⊎ (k ≤ d) → (f < g) ⊎ (g ≤ f) → n + n ≤ d * g + k * f
    cross (inl dk) (inl fg) =
        let le_f : f ≤ g = omega (arith, fg) in
        let le_d : d ≤ k = omega (arith, dk) in
        omega (arith, one, mul-le-mul_left d le_f, mul-le-mul_right f le_d)
    cross (inl dk) (inr gf) =
        let u : ℕ = k - d in
        let all_f : d * f + u * f ≡ k * f = sym (add-mul d u f) ∙ ap (λ m. m * f) (omega (arith, dk)) in
        let all_g : d * g + u * g ≡ k * g = sym (add-mul d u g) ∙ ap (λ m. m * g) (omega (arith, dk)) in
        omega (arith, one, two, all_f, all_g, mul-le-mul_left u gf)
    cross (inr kd) (inl fg) =
        let u : ℕ = d - k in
        let le : f ≤ g = omega (arith, fg) in
        let all_f : k * f + u * f ≡ d * f = sym (add-mul k u f) ∙ ap (λ m. m * f) (omega (arith, kd)) in
        let all_g : k * g + u * g ≡ d * g = sym (add-mul k u g) ∙ ap (λ m. m * g) (omega (arith, kd)) in
        omega (arith, one, two, all_f, all_g, mul-le-mul_left u le)
    cross (inr kd) (inr gf) = omega (arith, two, mul-le-mul_left k gf, mul-le-mul_right g kd)

pub leap_small : (cpus tick late : ℕ) → late ≤ tick → 4 * leap cpus tick late ≤ cpus * tick
leap_small cpus tick late le = leap_most cpus tick late 0 0 (cpus + 1) 4 (cpus * tick) (omega arith) each
  where
    each : (k : ℕ) → 0 ≤ k → k < 0 + (cpus + 1) → 4 * one_leap cpus tick late k ≤ cpus * tick
    each k low high =
        let within = four_within (cpus - k) k late (tick - late) (one_leap cpus tick late k) (omega arith) (omega arith) in
        subst (λ m. 4 * one_leap cpus tick late k ≤ m) (ap (λ m. m * (late + (tick - late))) (omega (arith, high)) ∙ ap (λ m. cpus * m) (omega (arith, le))) within

none_is : (k : ℕ) → 1 * k ≤ 0 → k ≡ 0
none_is k le = omega (arith, le)

-- there is none at the beginning of a tick
pub leap_none_early : (cpus tick : ℕ) → leap cpus tick 0 ≡ 0
leap_none_early cpus tick = none_is (leap cpus tick 0) (leap_most cpus tick 0 0 0 (cpus + 1) 1 0 (omega arith) (λ k low high. nothing ((cpus - k) * 0) (k * (tick - 0)) (mul-zero (cpus - k))))
  where
    nothing : (m n : ℕ) → m ≡ 0 → 1 * min m n ≤ 0
    nothing m n none = omega (arith, none)

-- nor on one processor
pub leap_none_alone : (tick late : ℕ) → leap 1 tick late ≡ 0
leap_none_alone tick late = none_is (leap 1 tick late) (leap_most 1 tick late 0 0 2 1 0 (omega arith) each)
  where
    nothing_first : (n m : ℕ) → 1 * min m (0 * n) ≤ 0
    nothing_first n m = omega arith

    nothing_second : (m n : ℕ) → 1 * min ((1 - 1) * m) n ≤ 0
    nothing_second m n = omega arith

    each : (k : ℕ) → 0 ≤ k → k < 0 + 2 → 1 * one_leap 1 tick late k ≤ 0
    each zero low high = nothing_first (tick - late) ((1 - 0) * late)
    each (suc zero) low high = nothing_second late (1 * (tick - late))
    each (suc (suc k)) low high = absurd (omega (arith, high))
