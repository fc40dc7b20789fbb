-- The interval of an entry, billed tick by tick.
use Rattle.std.proofs.Common.{◌≡◌, ℕ, zero, suc, ◌+◌, ◌-◌, ◌*◌, ◌/◌, ◌<◌, ◌≤◌, ◌⊎◌, min, max, Bool, true, false, cond, ◌&&◌, nat_eq, nat_le, nat_lt, List, [], ◌∷◌, ◌++◌, Option, Some, None, refl, sym, ◌∙◌, ap, subst, arith, inl, inr, mul-le-mul_right}
use Rattle.std.specs.List.{sum_by}
use Rattle.std.proofs.Math.Nat.{add-mul, div-mul-le_self}
use Rattle.std.proofs.lemmas.Bool.{cases_lt}
use Rattle.std.proofs.lemmas.Bool.Decides.{nat_tests}
use Rattle.std.proofs.lemmas.List.Sums.{sum_by-append, sum_by-cons}
use Rattle.aps_model.specs.declared.entry.Entry.{Entry}
use Rattle.aps_model.specs.Limits.{longest_window, most_partitions, most_time_of_tick}
use Rattle.aps_model.specs.Usage.{billed_by, critical_by, critical_used, names, overlap, used}
use Rattle.aps_window.specs.Bills.{Bill, all_time, bills_critical, bills_used, critical_time, time_in}
use Rattle.aps_window.specs.StandsFor.{StandsFor}
use Rattle.aps_window.specs.Window.{Window, window_billed, billed_on}
use Rattle.aps_live.specs.BilledTo.{IsBilledTo}
use Rattle.aps_live.specs.Tied.{FitsTicks, IsTied}

-- ---- overlaps

-- so much more where one tick more counts
one_more : (tick a b k from to : ℕ) → cond (nat_le a k && nat_lt k b) (overlap tick k (k + 1) from to) 0 + overlap tick a (min b k) from to ≡ overlap tick a (min b (k + 1)) from to
one_more tick a b k from to = by_tests (nat_le a k) (nat_lt k b) refl refl
  where
    joined : (low mid high from to : ℕ) → low ≤ mid → mid ≤ high → (min to high - max from mid) + (min to mid - max from low) ≡ min to high - max from low
    joined low mid high from to l m = omega (arith, l, m)

    none : (low mid high from to : ℕ) → mid ≤ high → high ≤ low → 0 + (min to mid - max from low) ≡ min to high - max from low
    none low mid high from to l m = omega (arith, l, m)

    by_tests : (t u : Bool) → nat_le a k ≡ t → nat_lt k b ≡ u → cond (t && u) (overlap tick k (k + 1) from to) 0 + overlap tick a (min b k) from to ≡ overlap tick a (min b (k + 1)) from to
    by_tests true true p q =
        let le : a ≤ k = grind (arith, nat_tests, p) in
        let lt : k < b = grind (arith, nat_tests, q) in
        let here : min b k ≡ k = omega (arith, lt) in
        let next : min b (k + 1) ≡ k + 1 = omega (arith, lt) in
        ap (λ n. overlap tick k (k + 1) from to + overlap tick a n from to) here
        ∙ joined (a * tick) (k * tick) ((k + 1) * tick) from to (mul-le-mul_right tick le) (mul-le-mul_right tick (omega arith))
        ∙ ap (λ n. overlap tick a n from to) (sym next)
    by_tests true false p q =
        let le : b ≤ k = grind (arith, nat_tests, q) in
        let same : min b k ≡ min b (k + 1) = omega (arith, le) in
        let is = ap (λ n. overlap tick a n from to) same in
        omega (arith, is)
    by_tests false true p q =
        let gt : k < a = grind (arith, nat_tests, p) in
        let lt : k < b = grind (arith, nat_tests, q) in
        let here : min b k ≡ k = omega (arith, lt) in
        let next : min b (k + 1) ≡ k + 1 = omega (arith, lt) in
        ap (λ n. 0 + overlap tick a n from to) here
        ∙ none (a * tick) (k * tick) ((k + 1) * tick) from to (mul-le-mul_right tick (omega arith)) (mul-le-mul_right tick (omega (arith, gt)))
        ∙ ap (λ n. overlap tick a n from to) (sym next)
    by_tests false false p q =
        let le : b ≤ k = grind (arith, nat_tests, q) in
        let same : min b k ≡ min b (k + 1) = omega (arith, le) in
        let is = ap (λ n. overlap tick a n from to) same in
        omega (arith, is)

-- nothing before the tick in which the interval begins, nor before the oldest that is kept
none_yet : (tick a b first from now to : ℕ) → (first ≡ from / tick) ⊎ (first + 399 ≡ now) → now < a + longest_window → overlap tick a (min b first) from to ≡ 0
none_yet tick a b first from now to (inl is) near =
    let low : first * tick ≤ from = subst (λ n. n * tick ≤ from) (sym is) (div-mul-le_self from tick) in
    let less : min b first * tick ≤ first * tick = mul-le-mul_right tick (omega arith) in
    omega (arith, low, less)
none_yet tick a b first from now to (inr is) near =
    let less : min b first * tick ≤ a * tick = mul-le-mul_right tick (omega (arith, is, near)) in
    omega (arith, less)

-- all of it up to the tick in which the interval ends
all_now : (tick a b now from to : ℕ) → to < (now + 1) * tick → overlap tick a (min b (now + 1)) from to ≡ overlap tick a b from to
all_now tick a b now from to ends = elim (cases_lt (now + 1) b) [
  | inl lt ↦
      let is : min b (now + 1) ≡ now + 1 = omega (arith, lt) in
      let more : (now + 1) * tick ≤ b * tick = mul-le-mul_right tick (omega (arith, lt)) in
      ap (λ n. overlap tick a n from to) is ∙ omega (arith, ends, more)
  | inr ge ↦
      let is : min b (now + 1) ≡ b = omega (arith, ge) in
      ap (λ n. overlap tick a n from to) is
]

-- ---- the bills

-- before the first tick
pub billed_none : (tick : ℕ) (window : Window) (h : List Entry) (e : Entry) (q first : ℕ) → IsTied tick window h → (first ≡ e.from / tick) ⊎ (first + 399 ≡ window.tick) → IsBilledTo tick window h e q first
billed_none tick window h e q first m least = record {
  bills = m.bills;
  stands = m.stands;
  used = λ p a b near. m.used p a b near ∙ nothing (nat_eq q p) (overlap tick a (min b first) e.from e.to) (used tick h p a b) (none_yet tick a b first e.from window.tick e.to least near);
  critical = λ p a b near. m.critical p a b near ∙ nothing (nat_eq q p && e.critical) (overlap tick a (min b first) e.from e.to) (critical_used tick h p a b) (none_yet tick a b first e.from window.tick e.to least near);
}
  where
    nothing : (t : Bool) (n u : ℕ) → n ≡ 0 → u ≡ u + cond t n 0
    nothing true n u is = omega (arith, is)
    nothing false n u is = omega arith

-- one tick more
pub billed_more : (tick : ℕ) (window new : Window) (h : List Entry) (e : Entry) (q k ns : ℕ) → IsBilledTo tick window h e q k → new.tick ≡ window.tick → ns ≡ overlap tick k (k + 1) e.from e.to
    → ((bills : List Bill) → StandsFor window bills → StandsFor new (record { partition = q; tick = k; ns = ns; critical = e.critical } ∷ bills))
    → IsBilledTo tick new h e q (k + 1)
billed_more tick window new h e q k ns m same is stands = record {
  bills = bill ∷ m.bills;
  stands = stands m.bills m.stands;
  used = λ p a b near.
      let old = m.used p a b (omega (arith, near, same)) in
      let one = sum_by-cons (time_in all_time p a b) bill m.bills in
      let here : time_in all_time p a b bill + cond (nat_eq q p) (overlap tick a (min b k) e.from e.to) 0 ≡ cond (nat_eq q p) (overlap tick a (min b (k + 1)) e.from e.to) 0 =
      ap (λ n. cond (nat_eq q p && (nat_le a k && nat_lt k b)) n 0 + cond (nat_eq q p) (overlap tick a (min b k) e.from e.to) 0) is
      ∙ by_test (nat_eq q p) (nat_le a k && nat_lt k b) (overlap tick k (k + 1) e.from e.to) _ _ (one_more tick a b k e.from e.to) in
      omega (arith, old, one, here);
  critical = λ p a b near.
      let old = m.critical p a b (omega (arith, near, same)) in
      let one = sum_by-cons (time_in critical_time p a b) bill m.bills in
      let here : time_in critical_time p a b bill + cond (nat_eq q p && e.critical) (overlap tick a (min b k) e.from e.to) 0 ≡ cond (nat_eq q p && e.critical) (overlap tick a (min b (k + 1)) e.from e.to) 0 =
      ap (λ n. cond (nat_eq q p && (nat_le a k && nat_lt k b)) (cond e.critical n 0) 0 + cond (nat_eq q p && e.critical) (overlap tick a (min b k) e.from e.to) 0) is
      ∙ by_marks (nat_eq q p) e.critical (nat_le a k && nat_lt k b) (overlap tick k (k + 1) e.from e.to) _ _ (one_more tick a b k e.from e.to) in
      omega (arith, old, one, here);
}
  where
    bill : Bill
    bill = record { partition = q; tick = k; ns = ns; critical = e.critical }

    by_test : (t u : Bool) (n old more : ℕ) → cond u n 0 + old ≡ more → cond (t && u) n 0 + cond t old 0 ≡ cond t more 0
    by_test true u n old more e = e
    by_test false u n old more e = refl

    by_marks : (t c u : Bool) (n old more : ℕ) → cond u n 0 + old ≡ more → cond (t && u) (cond c n 0) 0 + cond (t && c) old 0 ≡ cond (t && c) more 0
    by_marks true true u n old more e = e
    by_marks true false true n old more e = refl
    by_marks true false false n old more e = refl
    by_marks false c u n old more e = refl

-- a sum over one entry more
added : (f : Entry → ℕ) (h : List Entry) (e : Entry) → sum_by f (h ++ e ∷ []) ≡ sum_by f h + f e
added f h e =
    let one = sum_by-cons f e [] in
    let more = sum_by-append f h (e ∷ []) in
    omega (arith, one, more)

-- after the last tick
pub billed_all : (tick : ℕ) (window : Window) (h : List Entry) (e : Entry) (q now : ℕ) → IsBilledTo tick window h e q (now + 1) → e.billed ≡ Some q → e.to < (now + 1) * tick → IsTied tick window (h ++ e ∷ [])
billed_all tick window h e q now m is ends = record {
  bills = m.bills;
  stands = m.stands;
  used = λ p a b near.
      let old = m.used p a b near in
      let whole : overlap tick a (min b (now + 1)) e.from e.to ≡ overlap tick a b e.from e.to = all_now tick a b now e.from e.to ends in
      let here : cond (nat_eq q p) (overlap tick a (min b (now + 1)) e.from e.to) 0 ≡ billed_by tick p a b e =
      ap (λ n. cond (nat_eq q p) n 0) whole ∙ ap (λ o. cond (names o p) (overlap tick a b e.from e.to) 0) (sym is) in
      omega (arith, old, here, added (billed_by tick p a b) h e);
  critical = λ p a b near.
      let old = m.critical p a b near in
      let whole : overlap tick a (min b (now + 1)) e.from e.to ≡ overlap tick a b e.from e.to = all_now tick a b now e.from e.to ends in
      let here : cond (nat_eq q p && e.critical) (overlap tick a (min b (now + 1)) e.from e.to) 0 ≡ critical_by tick p a b e =
      ap (λ n. cond (nat_eq q p && e.critical) n 0) whole ∙ ap (λ o. cond (names o p && e.critical) (overlap tick a b e.from e.to) 0) (sym is) in
      omega (arith, old, here, added (critical_by tick p a b) h e);
}

-- an entry that bills nobody
pub billed_nobody : (tick : ℕ) (window : Window) (h : List Entry) (e : Entry) → IsTied tick window h → e.billed ≡ None → IsTied tick window (h ++ e ∷ [])
billed_nobody tick window h e m is = record {
  bills = m.bills;
  stands = m.stands;
  used = λ p a b near.
      let here : billed_by tick p a b e ≡ 0 = ap (λ o. cond (names o p) (overlap tick a b e.from e.to) 0) is in
      omega (arith, m.used p a b near, here, added (billed_by tick p a b) h e);
  critical = λ p a b near.
      let here : critical_by tick p a b e ≡ 0 = ap (λ o. cond (names o p && e.critical) (overlap tick a b e.from e.to) 0) is in
      omega (arith, m.critical p a b near, here, added (critical_by tick p a b) h e);
}

-- ---- what is billed in one tick fits

same_number : (q : ℕ) → nat_eq q q ≡ true
same_number q = grind (arith, nat_tests)

pub fits_tick : (tick : ℕ) (window : Window) (h : List Entry) (e : Entry) (q k ns : ℕ) → IsBilledTo tick window h e q k → e.billed ≡ Some q → q < most_partitions
    → k ≤ window.tick → window.tick < k + longest_window
    → ns ≡ overlap tick k (k + 1) e.from e.to → FitsTicks tick (h ++ e ∷ []) → billed_on window q k + ns ≤ most_time_of_tick
fits_tick tick window h e q k ns m is small past near ns_is fits =
    let age = window.tick - k in
    let slot = m.stands.used q age small (omega (arith, past, near)) in
    let low : window.tick - age ≡ k = omega (arith, past) in
    let high : window.tick + 1 - age ≡ k + 1 = omega (arith, past) in
    let on : billed_on window q k ≡ bills_used m.bills q k (k + 1) = slot ∙ ap (λ n. bills_used m.bills q n (window.tick + 1 - age)) low ∙ ap (bills_used m.bills q k) high in
    let old = m.used q k (k + 1) near in
    let none : cond (nat_eq q q) (overlap tick k (min (k + 1) k) e.from e.to) 0 ≡ 0 = empty (nat_eq q q) _ (nothing tick k e.from e.to) in
    let new : billed_by tick q k (k + 1) e ≡ overlap tick k (k + 1) e.from e.to =
    ap (λ o. cond (names o q) (overlap tick k (k + 1) e.from e.to) 0) is ∙ ap (λ t. cond t (overlap tick k (k + 1) e.from e.to) 0) (same_number q) in
    omega (arith, on, old, none, new, ns_is, fits q k, added (billed_by tick q k (k + 1)) h e)
  where
    nothing : (tick k from to : ℕ) → overlap tick k (min (k + 1) k) from to ≡ 0
    nothing tick k from to =
        let here : min (k + 1) k ≡ k = omega arith in
        ap (λ n. overlap tick k n from to) here ∙ omega arith

    empty : (t : Bool) (n : ℕ) → n ≡ 0 → cond t n 0 ≡ 0
    empty true n e = e
    empty false n e = refl

pub tick_after : (tick z : ℕ) → 0 < tick → z < (z / tick + 1) * tick
tick_after tick z pos = search (arith)
