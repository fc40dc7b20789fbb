-- The bills of entries have the sums of the entries.
use Rattle.std.proofs.Common.{◌≡◌, ℕ, ◌+◌, ◌-◌, ◌*◌, ◌/◌, ◌<◌, ◌≤◌, List, [], ◌∷◌, Bool, true, false, ◌&&◌, nat_eq, nat_le, nat_lt, cond, Option, Some, None, refl, ◌∙◌, arith, inl, inr, sum_by, div-mul-le_self, mul-le-mul_right}
use Rattle.std.specs.List.{fold}
use Rattle.std.proofs.lemmas.Bool.{cases_lt}
use Rattle.std.proofs.lemmas.Bool.Decides.{nat_tests}
use Rattle.std.proofs.lemmas.List.Elements.{All-head, All-tail}
use Rattle.std.proofs.lemmas.List.Sums.{sum_by-cons}
use Rattle.aps_model.specs.declared.entry.Entry.{Entry}
use Rattle.aps_model.specs.Due.{next_boundary}
use Rattle.aps_model.specs.Usage.{billed_by, critical_by, critical_used, names, overlap, used}
use Rattle.aps_window.specs.Bills.{Bill, all_time, bills_critical, bills_used, critical_time, time_in}
use Rattle.aps_window.specs.Entries.{AreInOneTick, IsInOneTick, bill_to, bills_of, with_billed, bills_with_entry}

-- ---- a time within one tick

lies_before : (a b k n : ℕ) → k < a → cond (nat_le a k && nat_lt k b) n 0 ≡ 0
lies_before a b k n before = grind (arith, nat_tests)

lies_after : (a b k n : ℕ) → b ≤ k → cond (nat_le a k && nat_lt k b) n 0 ≡ 0
lies_after a b k n past = grind (arith, nat_tests)

lies_within : (a b k n : ℕ) → a ≤ k → k < b → cond (nat_le a k && nat_lt k b) n 0 ≡ n
lies_within a b k n from to = grind (arith, nat_tests)

-- it lies in the ticks as a whole, or not at all
pub overlap_whole : (tick a b from to : ℕ) → to ≤ next_boundary tick from
    → cond (nat_le a (from / tick) && nat_lt (from / tick) b) (to - from) 0 ≡ overlap tick a b from to
overlap_whole tick a b from to short =
    let k = from / tick in
    let begins : k * tick ≤ from = div-mul-le_self from tick in
    elim (cases_lt k a) [
      | inl before ↦
          let far : (k + 1) * tick ≤ a * tick = mul-le-mul_right tick (omega (arith, before)) in
          lies_before a b k (to - from) before ∙ omega (arith, far, short)
      | inr late ↦
          let near : a * tick ≤ k * tick = mul-le-mul_right tick late in
          elim (cases_lt k b) [
            | inl early ↦
                let far : (k + 1) * tick ≤ b * tick = mul-le-mul_right tick (omega (arith, early)) in
                lies_within a b k (to - from) late early ∙ omega (arith, near, far, short, begins)
            | inr past ↦
                let far : b * tick ≤ k * tick = mul-le-mul_right tick past in
                lies_after a b k (to - from) past ∙ omega (arith, far, begins)
          ]
    ]

-- ---- one entry

both_first : (x y : Bool) (n m : ℕ) → cond y n 0 ≡ m → cond (x && y) n 0 ≡ cond x m 0
both_first true y n m is = is
both_first false y n m is = refl

both_critical : (x y c : Bool) (n m : ℕ) → cond y n 0 ≡ m → cond (x && y) (cond c n 0) 0 ≡ cond (x && c) m 0
both_critical false y c n m is = refl
both_critical true y true n m is = is
both_critical true true false n m is = refl
both_critical true false false n m is = refl

no_time : (tick a b from to : ℕ) (x : Bool) → to ≤ from → cond x (overlap tick a b from to) 0 ≡ 0
no_time tick a b from to true none = omega arith
no_time tick a b from to false none = refl

used_billed : (tick p a b : ℕ) (bills : List Bill) (e : Entry) → IsInOneTick tick e
    → sum_by (time_in all_time p a b) (bills_with_entry tick bills e) ≡ sum_by (time_in all_time p a b) bills + billed_by tick p a b e
used_billed tick p a b bills e short = by_billed e.billed
  where
    f : Bill → ℕ
    f = time_in all_time p a b

    by_time : (q : ℕ) (t : Bool) → nat_lt e.from e.to ≡ t
        → sum_by f (cond t (bill_to tick e q ∷ bills) bills) ≡ sum_by f bills + cond (nat_eq q p) (overlap tick a b e.from e.to) 0
    by_time q true is =
        let here : f (bill_to tick e q) ≡ cond (nat_eq q p) (overlap tick a b e.from e.to) 0 =
        both_first (nat_eq q p) _ (e.to - e.from) _ (overlap_whole tick a b e.from e.to short) in
        let sum = sum_by-cons f (bill_to tick e q) bills in
        omega (arith, here, sum)
    by_time q false is =
        let late : e.to ≤ e.from = grind (arith, nat_tests) in
        let none = no_time tick a b e.from e.to (nat_eq q p) late in
        omega (arith, none)

    by_billed : (o : Option ℕ) → sum_by f (with_billed tick bills e o) ≡ sum_by f bills + cond (names o p) (overlap tick a b e.from e.to) 0
    by_billed None = omega arith
    by_billed (Some q) = by_time q (nat_lt e.from e.to) refl

critical_billed : (tick p a b : ℕ) (bills : List Bill) (e : Entry) → IsInOneTick tick e
    → sum_by (time_in critical_time p a b) (bills_with_entry tick bills e) ≡ sum_by (time_in critical_time p a b) bills + critical_by tick p a b e
critical_billed tick p a b bills e short = by_billed e.billed
  where
    f : Bill → ℕ
    f = time_in critical_time p a b

    by_time : (q : ℕ) (t : Bool) → nat_lt e.from e.to ≡ t
        → sum_by f (cond t (bill_to tick e q ∷ bills) bills) ≡ sum_by f bills + cond (nat_eq q p && e.critical) (overlap tick a b e.from e.to) 0
    by_time q true is =
        let here : f (bill_to tick e q) ≡ cond (nat_eq q p && e.critical) (overlap tick a b e.from e.to) 0 =
        both_critical (nat_eq q p) _ e.critical (e.to - e.from) _ (overlap_whole tick a b e.from e.to short) in
        let sum = sum_by-cons f (bill_to tick e q) bills in
        omega (arith, here, sum)
    by_time q false is =
        let late : e.to ≤ e.from = grind (arith, nat_tests) in
        let none = no_time tick a b e.from e.to (nat_eq q p && e.critical) late in
        omega (arith, none)

    by_billed : (o : Option ℕ) → sum_by f (with_billed tick bills e o) ≡ sum_by f bills + cond (names o p && e.critical) (overlap tick a b e.from e.to) 0
    by_billed None = omega arith
    by_billed (Some q) = by_time q (nat_lt e.from e.to) refl

-- ---- all entries

sum_over : (f : Bill → ℕ) (g : Entry → ℕ) (tick : ℕ) (h : List Entry)
    → ((bills : List Bill) (e : Entry) → IsInOneTick tick e → sum_by f (bills_with_entry tick bills e) ≡ sum_by f bills + g e)
    → AreInOneTick tick h → (bills : List Bill) → sum_by f (fold (bills_with_entry tick) bills h) ≡ sum_by f bills + sum_by g h
sum_over f g tick [] one each bills = omega arith
sum_over f g tick (e ∷ h) one each bills =
    let here = one bills e (All-head (IsInOneTick tick) e h each) in
    let rest = sum_over f g tick h one (All-tail (IsInOneTick tick) e h each) (bills_with_entry tick bills e) in
    let sum = sum_by-cons g e h in
    omega (arith, here, rest, sum)

pub used_same : (tick : ℕ) (h : List Entry) (p a b : ℕ) → AreInOneTick tick h → bills_used (bills_of tick h) p a b ≡ used tick h p a b
used_same tick h p a b each =
    let all = sum_over (time_in all_time p a b) (billed_by tick p a b) tick h (used_billed tick p a b) each [] in
    omega (arith, all)

pub critical_same : (tick : ℕ) (h : List Entry) (p a b : ℕ) → AreInOneTick tick h → bills_critical (bills_of tick h) p a b ≡ critical_used tick h p a b
critical_same tick h p a b each =
    let all = sum_over (time_in critical_time p a b) (critical_by tick p a b) tick h (critical_billed tick p a b) each [] in
    omega (arith, all)
