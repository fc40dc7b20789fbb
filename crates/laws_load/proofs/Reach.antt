-- What lanes may still add to the time between two moments.
use Rattle.std.proofs.Common.{◌≡◌, ℕ, ◌+◌, ◌*◌, ◌/◌, ◌≤◌, ◌<◌, Bool, true, false, if◌then◌else◌, List, [], ◌∷◌, length, slice_set, slice_get, Some, refl, sym, ap, subst, arith, inl, inr}
use Rattle.std.specs.List.{sum_by}
use Rattle.std.proofs.Math.Nat.{add-mul, div-mul-le_self, lt_of_mul-lt-mul_right, mul-le-mul_left, mul-le-mul_right}
use Rattle.std.proofs.lemmas.Bool.{cases_lt}
use Rattle.std.proofs.lemmas.List.{length-set}
use Rattle.std.proofs.lemmas.List.Sums.{sum_by-cons, sum_by-set}
use Rattle.std.proofs.lemmas.Option.{get_or_from_slice_get, slice_get_within}
use Rattle.aps_model.specs.Due.{next_boundary}
use Rattle.aps_model.specs.Usage.{overlap}
use Rattle.laws_runs.specs.Window.{Kept, Lane, Walks, Wide, lane_after}
use Rattle.laws_bounds.specs.Lanes.{paid}
use Rattle.laws_bounds.specs.Pasts.{past}

-- what a lane may still add to the time from lo to hi, of the runs that count
abbrev pub reach : (Kept → Bool) → ℕ → ℕ → ℕ → Lane → ℕ
reach counts tick lo hi l = if counts l.runs then overlap 1 lo hi l.last (next_boundary tick l.last) else 0

-- ---- sums over lanes

pub sum_up : {X : Type 0} (f g : X → ℕ) → ((x : X) → f x ≤ g x) → (xs : List X) → sum_by f xs ≤ sum_by g xs
sum_up f g le [] = omega arith
sum_up f g le (x ∷ xs) = omega (arith, sum_by-cons f x xs, sum_by-cons g x xs, le x, sum_up f g le xs)

pub sum_both : {X : Type 0} (f g : X → ℕ) (xs : List X) → sum_by (λ x. f x + g x) xs ≡ sum_by f xs + sum_by g xs
sum_both f g [] = refl
sum_both f g (x ∷ xs) = omega (arith, sum_by-cons f x xs, sum_by-cons g x xs, sum_by-cons (λ x. f x + g x) x xs, sum_both f g xs)

-- how many pass the test, and as many times k
abbrev pub passing : {X : Type 0} → (X → Bool) → List X → ℕ
passing test xs = sum_by (λ x. if test x then 1 else 0) xs

pub passing_times : {X : Type 0} (test : X → Bool) (k : ℕ) (xs : List X) → sum_by (λ x. if test x then k else 0) xs ≡ passing test xs * k
passing_times test k [] = omega arith
passing_times test k (x ∷ xs) =
    let split : passing test (x ∷ xs) * k ≡ ((if test x then 1 else 0) + passing test xs) * k = ap (λ n. n * k) (sum_by-cons (λ x. if test x then 1 else 0) x xs) in
    omega (arith, sum_by-cons (λ x. if test x then k else 0) x xs, split, passing_times test k xs, by_test (test x), add-mul (if test x then 1 else 0) (passing test xs) k)
  where
    by_test : (t : Bool) → (if t then k else 0) ≡ (if t then 1 else 0) * k
    by_test true = omega arith
    by_test false = omega arith

pub passing_few : {X : Type 0} (test : X → Bool) (xs : List X) → passing test xs ≤ length xs
passing_few test [] = omega arith
passing_few test (x ∷ xs) = omega (arith, sum_by-cons (λ x. if test x then 1 else 0) x xs, passing_few test xs, by_test (test x))
  where
    by_test : (t : Bool) → (if t then 1 else 0) ≤ 1
    by_test true = omega arith
    by_test false = omega arith

sum_times : {X : Type 0} (k : ℕ) (xs : List X) → sum_by (λ x. k) xs ≡ length xs * k
sum_times k [] = omega arith
sum_times k (x ∷ xs) = omega (arith, sum_by-cons (λ x. k) x xs, sum_times k xs, add-mul (length xs) 1 k)

pub sum_at_most : {X : Type 0} (f : X → ℕ) (k : ℕ) → ((x : X) → f x ≤ k) → (xs : List X) → sum_by f xs ≤ length xs * k
sum_at_most f k le xs = subst (λ n. sum_by f xs ≤ n) (sum_times k xs) (sum_up f (λ x. k) le xs)

-- ---- one lane

pub boundary_near : (tick last : ℕ) → next_boundary tick last ≤ last + tick
boundary_near tick last = omega (arith, div-mul-le_self last tick, add-mul (last / tick) 1 tick)

pub boundary_before : (tick b last : ℕ) → last < b * tick → next_boundary tick last ≤ b * tick
boundary_before tick b last early =
    let q : ℕ = last / tick in
    let low : q * tick ≤ last = div-mul-le_self last tick in
    let less : q * tick < b * tick = omega (arith, low, early) in
    let few : q < b = lt_of_mul-lt-mul_right tick less in
    mul-le-mul_right tick (omega (arith, few))

test_le : (t : Bool) (k n : ℕ) → k ≤ n → (if t then k else 0) ≤ n
test_le true k n le = le
test_le false k n le = omega arith

pub reach_short : (counts : Kept → Bool) (tick lo hi : ℕ) (l : Lane) → reach counts tick lo hi l ≤ tick
reach_short counts tick lo hi l = test_le (counts l.runs) _ tick (omega (arith, boundary_near tick l.last))

-- a lane that doesn't count, or stands later, adds nothing
pub reach_uncounted : (counts : Kept → Bool) (tick lo hi : ℕ) (l : Lane) → counts l.runs ≡ false → reach counts tick lo hi l ≡ 0
reach_uncounted counts tick lo hi l is = ap (λ t. if t then overlap 1 lo hi l.last (next_boundary tick l.last) else 0) is

none_left : (k : ℕ) → k ≤ 0 → k ≡ 0
none_left k le = omega (arith, le)

pub reach_past : (counts : Kept → Bool) (tick lo hi : ℕ) (l : Lane) → hi ≤ l.last → reach counts tick lo hi l ≡ 0
reach_past counts tick lo hi l late = none_left (reach counts tick lo hi l) (test_le (counts l.runs) _ 0 (omega (arith, late)))

-- an entry pays no more than its lane may add
pay_tests : (t : Bool) (lo hi from to end : ℕ) → to ≤ end → (if t then overlap 1 lo hi from to else 0) ≤ (if t then overlap 1 lo hi from end else 0)
pay_tests true lo hi from to end le = omega (arith, le)
pay_tests false lo hi from to end le = omega arith

pub pay_reach : (counts : Kept → Bool) (tick lo hi : ℕ) (lane : Lane) (e : Wide) → e.from ≡ lane.last → e.bills ≡ lane.runs → e.to ≤ next_boundary tick e.from
    → paid counts 1 lo hi e ≤ reach counts tick lo hi lane
pay_reach counts tick lo hi lane e from bills near =
    subst (λ z. paid counts 1 lo hi e ≤ (if counts lane.runs then overlap 1 lo hi z (next_boundary tick z) else 0)) from
    (subst (λ (k : Kept). paid counts 1 lo hi e ≤ (if counts k then overlap 1 lo hi e.from (next_boundary tick e.from) else 0)) bills
    (pay_tests (counts e.bills) lo hi e.from e.to (next_boundary tick e.from) near))

-- ---- one entry more

module _ (lanes : List Lane) (e : Wide) (lane : Lane) (found : slice_get lanes e.cpu ≡ Some lane) where
  abbrev set : List Lane
  set = slice_set lanes e.cpu (lane_after e)

  sums : (f : Lane → ℕ) → sum_by f set + f lane ≡ sum_by f lanes + f (lane_after e)
  sums f =
      subst (λ (l : Lane). sum_by f set + f l ≡ sum_by f lanes + f (lane_after e)) (get_or_from_slice_get lanes e.cpu lane lane found)
      (sum_by-set f lanes e.cpu (lane_after e) lane (slice_get_within lanes e.cpu lane found))

  pub step_reach : (counts : Kept → Bool) (tick lo hi : ℕ) → e.from ≡ lane.last → e.bills ≡ lane.runs → e.to ≤ next_boundary tick e.from
      → paid counts 1 lo hi e + sum_by (reach counts tick lo hi) set ≤ sum_by (reach counts tick lo hi) lanes + reach counts tick lo hi (lane_after e)
  step_reach counts tick lo hi from bills near = omega (arith, sums (reach counts tick lo hi), pay_reach counts tick lo hi lane e from bills near)

  pub step_past : (counts : Kept → Bool) (lo hi : ℕ) → e.from ≡ lane.last → e.from ≤ e.to → paid counts 1 lo hi e + sum_by (past 1 lo hi) lanes ≤ sum_by (past 1 lo hi) set
  step_past counts lo hi from on =
      let grown : overlap 1 lo hi e.from e.to + past 1 lo hi lane ≤ past 1 lo hi (lane_after e) =
      subst (λ z. overlap 1 lo hi e.from e.to + overlap 1 lo hi 0 z ≤ overlap 1 lo hi 0 e.to) from (more lo hi e.from e.to on) in
      omega (arith, sums (past 1 lo hi), grown, test_le (counts e.bills) (overlap 1 lo hi e.from e.to) (overlap 1 lo hi e.from e.to) (omega arith))
    where
      more : (lo hi x y : ℕ) → x ≤ y → overlap 1 lo hi x y + overlap 1 lo hi 0 x ≤ overlap 1 lo hi 0 y
      more lo hi x y le = grind (arith, le)

-- ---- resets within the limit

-- at each pick that counts and stands before hi, what was counted so far is within the limit
abbrev pub ResetsBefore : (Kept → Bool) → ℕ → ℕ → ℕ → ℕ → ℕ → List Wide → Type 0
ResetsBefore counts lo hi scale limit so_far [] = Unit {0}
ResetsBefore counts lo hi scale limit so_far (e ∷ es) =
    (counts e.keeps ≡ true → e.to < hi → scale * (so_far + paid counts 1 lo hi e) ≤ limit)
    × ResetsBefore counts lo hi scale limit (so_far + paid counts 1 lo hi e) es

reset_sum : (scale limit counted pays before after most : ℕ) → (scale * (counted + before) ≤ limit + scale * most) → pays + after ≤ before → scale * ((counted + pays) + after) ≤ limit + scale * most
reset_sum scale limit counted pays before after most so_far less =
    let fewer : (counted + pays) + after ≤ counted + before = omega (arith, less) in
    omega (arith, mul-le-mul_left scale fewer, so_far)

-- what counts stays within the limit and one tick for each lane
pub walk_reach : (counts : Kept → Bool) (tick lo hi scale limit so_far : ℕ) (lanes : List Lane) (entries : List Wide)
    → scale * (so_far + sum_by (reach counts tick lo hi) lanes) ≤ limit + scale * (length lanes * tick)
    → Walks tick lanes entries → ResetsBefore counts lo hi scale limit so_far entries
    → scale * (so_far + sum_by (paid counts 1 lo hi) entries) ≤ limit + scale * (length lanes * tick)
walk_reach counts tick lo hi scale limit so_far lanes [] start walk resets =
    let less : so_far + sum_by (paid counts 1 lo hi) [] ≤ so_far + sum_by (reach counts tick lo hi) lanes = omega arith in
    omega (arith, mul-le-mul_left scale less, start)
walk_reach counts tick lo hi scale limit so_far lanes (e ∷ es) start (lane, found, from, bills, near, later) (reset, resets) =
    let f : Lane → ℕ = reach counts tick lo hi in
    let pays : ℕ = paid counts 1 lo hi e in
    let lanes' = slice_set lanes e.cpu (lane_after e) in
    let same : length lanes' ≡ length lanes = length-set lanes e.cpu (lane_after e) in
    let step = step_reach lanes e lane found counts tick lo hi from bills near in
    let now : scale * ((so_far + pays) + sum_by f lanes') ≤ limit + scale * (length lanes * tick) = by_count (counts e.keeps) refl step (omega (arith, same, sum_at_most f tick (reach_short counts tick lo hi) lanes', ap (λ n. n * tick) same)) in
    let now' : scale * ((so_far + pays) + sum_by f lanes') ≤ limit + scale * (length lanes' * tick) = subst (λ n. scale * ((so_far + pays) + sum_by f lanes') ≤ limit + scale * (n * tick)) (sym same) now in
    let rest = walk_reach counts tick lo hi scale limit (so_far + pays) lanes' es now' later resets in
    let order : so_far + sum_by (paid counts 1 lo hi) (e ∷ es) ≡ (so_far + pays) + sum_by (paid counts 1 lo hi) es = omega (arith, sum_by-cons (paid counts 1 lo hi) e es) in
    subst (λ n. scale * (so_far + sum_by (paid counts 1 lo hi) (e ∷ es)) ≤ limit + scale * (n * tick)) same
    (subst (λ n. scale * n ≤ limit + scale * (length lanes' * tick)) (sym order) rest)
  where
    quiet : (new : ℕ) → new ≡ 0 → paid counts 1 lo hi e + sum_by (reach counts tick lo hi) (slice_set lanes e.cpu (lane_after e)) ≤ sum_by (reach counts tick lo hi) lanes + new
        → scale * ((so_far + paid counts 1 lo hi e) + sum_by (reach counts tick lo hi) (slice_set lanes e.cpu (lane_after e))) ≤ limit + scale * (length lanes * tick)
    quiet new none step = reset_sum scale limit so_far (paid counts 1 lo hi e) (sum_by (reach counts tick lo hi) lanes) _ (length lanes * tick) start (omega (arith, step, none))

    by_count : (t : Bool) → counts e.keeps ≡ t → paid counts 1 lo hi e + sum_by (reach counts tick lo hi) (slice_set lanes e.cpu (lane_after e)) ≤ sum_by (reach counts tick lo hi) lanes + reach counts tick lo hi (lane_after e)
        → sum_by (reach counts tick lo hi) (slice_set lanes e.cpu (lane_after e)) ≤ length lanes * tick
        → scale * ((so_far + paid counts 1 lo hi e) + sum_by (reach counts tick lo hi) (slice_set lanes e.cpu (lane_after e))) ≤ limit + scale * (length lanes * tick)
    by_count false is step most = quiet (reach counts tick lo hi (lane_after e)) (reach_uncounted counts tick lo hi (lane_after e) is) step
    by_count true is step most = elim (cases_lt e.to hi) [
      | inl early ↦ omega (arith, reset is early, mul-le-mul_left scale most)
      | inr late ↦ quiet (reach counts tick lo hi (lane_after e)) (reach_past counts tick lo hi (lane_after e) late) step
    ]
