-- The upper line of the excess.
use Rattle.std.proofs.Common.{◌≡◌, ℕ, zero, suc, ◌+◌, ◌-◌, ◌*◌, ◌<◌, ◌≤◌, List, [], ◌∷◌, ◌++◌, length, refl, sym, ◌∙◌, ap, subst, Bool, true, false, cond, nat_eq, arith}
use Rattle.std.specs.List.{sum_by}
use Rattle.std.proofs.lemmas.Bool.Decides.{nat_tests}
use Rattle.std.proofs.lemmas.List.{length-replicate}
use Rattle.std.proofs.Math.Nat.{mul-le-mul_left, mul-pos}
use Rattle.aps_model.specs.declared.entry.Entry.{Entry}
use Rattle.aps_model.specs.declared.entry.Order.{Order}
use Rattle.aps_model.specs.Legal.{IsLegal}
use Rattle.aps_model.specs.Partition.{row_or_none}
use Rattle.aps_model.specs.Scenario.{Scenario}
use Rattle.aps_model.specs.SchedulerState.{SchedulerState}
use Rattle.aps_model.specs.Shape.{whole}
use Rattle.aps_model.specs.Usage.{critical_used, used}
use Rattle.aps_model.specs.Valid.{IsScenario}
use Rattle.laws_runs.specs.Window.{Walks, lanes_at_start, still, wides}
use Rattle.laws_runs.proofs.Windows.{walks}
use Rattle.laws_bounds.specs.Debts.{debt}
use Rattle.laws_bounds.specs.Lanes.{in_window, is_critical, is_ordinary, paid, paid_of}
use Rattle.laws_bounds.proofs.Late.{sum_at_start}
use Rattle.laws_bounds.proofs.Upper.{upper, upper_none}
use Rattle.laws_bounds.specs.Excess.{leeway}
use Rattle.laws_bounds.specs.FreeTime.{free_used}
use Rattle.laws_bounds.specs.Kinds.{is_funded}
use Rattle.laws_bounds.proofs.Marked.{Along, BillsLast, marked, walks_marked}
use Rattle.laws_bounds.proofs.MarkedSums.{is_unfunded, never_marked, resets_marked, unfunded_marked, used_marked}
use Rattle.laws_bounds.proofs.Spans.{IsSpan, funded_within, pos}

module _ (scenario : Scenario) (order : Order) (h : List Entry) (r : IsScenario scenario) (legal : IsLegal scenario order h) (a b : ℕ) (s : SchedulerState) (w : IsSpan scenario h a b s) where
  pub count : length (lanes_at_start scenario) ≡ s.shape.cpus
  count = length-replicate scenario.shape.cpus still ∙ sym w.sizes.cpus

  pub walks_plain : Walks s.shape.tick (lanes_at_start scenario) (wides scenario h)
  walks_plain = subst (λ n. Walks n (lanes_at_start scenario) (wides scenario h)) (sym w.sizes.tick) (walks scenario order h r legal).0

  pub walks_here : Walks s.shape.tick (lanes_at_start scenario) (marked is_unfunded scenario h) × Along (BillsLast scenario) [] h
  walks_here = walks_marked is_unfunded scenario s.shape.tick h walks_plain

  some_time : 0 < whole s.shape
  some_time =
      let cpu = r.shape.some_cpu in
      let some : 0 < s.shape.cpus = omega (arith, cpu, w.sizes.cpus) in
      mul-pos (mul-pos some w.some) (pos scenario order h r legal a b s w)

  module _ (short : b ≤ a + s.shape.window) (p : ℕ) where
    abbrev tick : ℕ
    tick = s.shape.tick

    abbrev budget : ℕ
    budget = (row_or_none s.rows p).budget

    abbrev unfunded : ℕ
    unfunded = sum_by (paid (is_critical p) tick a b) (marked is_unfunded scenario h)

    spent : paid_of tick a b (marked is_unfunded scenario h) p ≡ used tick h p a b
    spent = used_marked is_unfunded scenario tick a b p [] h

    part : unfunded ≤ critical_used tick h p a b + free_used scenario tick h p a b
    part = unfunded_marked scenario tick a b p [] h walks_here.1

    still_debts : sum_by (debt (is_ordinary p) tick a b) (lanes_at_start scenario) ≡ 0
    still_debts = sum_at_start scenario (debt (is_ordinary p) tick a b) refl

    not_none : (k n : ℕ) → k ≡ suc n → nat_eq k 0 ≡ false
    not_none k n is = grind (arith, nat_tests)

    some_limit : (n : ℕ) → budget ≡ suc n → 0 < budget * whole s.shape
    some_limit n is =
        let some : 0 < budget = omega (arith, is) in
        mul-pos some some_time

    -- a partition with a budget stays below it by the limit of its picks
    pub below_limit : (n : ℕ) → budget ≡ suc n → s.shape.parts * used tick h p a b < budget * whole s.shape + s.shape.parts * leeway scenario s.shape s.rows h a b p
    below_limit n is =
        let limit : ℕ = budget * whole s.shape - 1 in
        let resets = resets_marked scenario tick a b p s.shape.parts limit h
        (λ before later e same funded inside. let less = funded_within scenario order h r legal a b s w short p before later e same funded inside in omega (arith, less)) in
        let all = upper tick a b p s.shape.parts limit (lanes_at_start scenario) (marked is_unfunded scenario h) (pos scenario order h r legal a b s w) still_debts walks_here.0 resets in
        let lanes : length (lanes_at_start scenario) * tick ≡ s.shape.cpus * tick = ap (λ k. k * tick) count in
        let leeway_is : leeway scenario s.shape s.rows h a b p ≡ critical_used tick h p a b + s.shape.cpus * tick + free_used scenario tick h p a b =
        ap (λ t. critical_used tick h p a b + cond t 0 (s.shape.cpus * tick) + free_used scenario tick h p a b) (not_none budget n is) in
        let less : length (lanes_at_start scenario) * tick + unfunded ≤ leeway scenario s.shape s.rows h a b p = omega (arith, lanes, part, leeway_is) in
        let all' : s.shape.parts * used tick h p a b ≤ limit + s.shape.parts * (length (lanes_at_start scenario) * tick + unfunded) =
        subst (λ k. s.shape.parts * k ≤ limit + s.shape.parts * (length (lanes_at_start scenario) * tick + unfunded)) spent all in
        omega (arith, all', mul-le-mul_left s.shape.parts less, some_limit n is)

    none_at_all : budget ≡ 0 → used tick h p a b ≤ leeway scenario s.shape s.rows h a b p
    none_at_all is =
        let never = never_marked scenario tick a b p h (λ before later e same funded. by_test before later e same funded (in_window tick a b e.to) refl) in
        let all = upper_none tick a b p (lanes_at_start scenario) (marked is_unfunded scenario h) (pos scenario order h r legal a b s w) still_debts walks_here.0 never in
        omega (arith, all, spent, part)
      where
        less_than_none : (n k m : ℕ) → k ≡ 0 → n < k * m → ⊥
        less_than_none n k m is less = omega (arith, subst (λ z. n < z * m) is less)

        by_test : (before later : List Entry) (e : Entry) → h ≡ before ++ e ∷ later → is_funded scenario (before ++ e ∷ []) p ≡ true → (t : Bool) → in_window tick a b e.to ≡ t → in_window tick a b e.to ≡ false
        by_test before later e same funded false inside = inside
        by_test before later e same funded true inside = absurd (less_than_none _ budget (whole s.shape) is (funded_within scenario order h r legal a b s w short p before later e same funded inside))

    pub above : s.shape.parts * used tick h p a b ≤ budget * whole s.shape + s.shape.parts * leeway scenario s.shape s.rows h a b p
    above = by_budget budget refl
      where
        by_budget : (n : ℕ) → budget ≡ n → s.shape.parts * used tick h p a b ≤ budget * whole s.shape + s.shape.parts * leeway scenario s.shape s.rows h a b p
        by_budget zero is = omega (arith, mul-le-mul_left s.shape.parts (none_at_all is))
        by_budget (suc n) is = omega (arith, below_limit n is)

    pub strictly : 0 < budget → s.shape.parts * used tick h p a b < budget * whole s.shape + s.shape.parts * leeway scenario s.shape s.rows h a b p
    strictly some = by_budget budget refl some
      where
        by_budget : (n : ℕ) → budget ≡ n → 0 < n → s.shape.parts * used tick h p a b < budget * whole s.shape + s.shape.parts * leeway scenario s.shape s.rows h a b p
        by_budget zero is less = absurd (omega (arith, less))
        by_budget (suc n) is less = below_limit n is
