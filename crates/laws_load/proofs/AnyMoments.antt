-- Windows that begin at any moment keep the lines of the excess, but for a leap.
use Rattle.std.proofs.Common.{◌≡◌, ℕ, ◌+◌, ◌-◌, ◌*◌, ◌≤◌, ◌<◌, Bool, true, false, if◌then◌else◌, nat_eq, List, [], ◌∷◌, ◌++◌, length, refl, sym, ◌∙◌, ap, subst, append_assoc, arith}
use Rattle.std.specs.List.{All, sum_by}
use Rattle.std.proofs.Math.ListN.{get_or}
use Rattle.std.proofs.Math.Nat.{add-mul, mul-add, mul-le-mul_left, mul-zero, mul_comm}
use Rattle.std.proofs.lemmas.Bool.{eqb-true}
use Rattle.std.proofs.lemmas.List.{get_or_default}
use Rattle.aps_model.specs.declared.entry.Entry.{Entry}
use Rattle.aps_model.specs.declared.entry.Order.{Order}
use Rattle.aps_model.specs.Due.{last_end}
use Rattle.aps_model.specs.Legal.{IsLegal}
use Rattle.aps_model.specs.Loaded.{finished_ticks, state_of_tick}
use Rattle.aps_model.specs.Partition.{row_or_none}
use Rattle.aps_model.specs.Scenario.{Scenario}
use Rattle.aps_model.specs.SchedulerState.{SchedulerState}
use Rattle.aps_model.specs.Shape.{whole}
use Rattle.aps_model.specs.Step.{step}
use Rattle.aps_model.specs.Usage.{overlap, used}
use Rattle.aps_model.specs.Valid.{IsScenario}
use Rattle.laws_runs.specs.Window.{Lane, lanes_at_start, still, wides, wides_from}
use Rattle.laws_runs.proofs.Windows.{walks}
use Rattle.laws_bounds.specs.Lanes.{paid, paid_of}
use Rattle.laws_bounds.specs.Pasts.{past}
use Rattle.laws_bounds.specs.Sums.{sum_below}
use Rattle.laws_bounds.proofs.Finished.{finished_end}
use Rattle.laws_bounds.proofs.Budget.{covered}
use Rattle.laws_bounds.proofs.Funded.{budgets_sum, whole_is}
use Rattle.laws_bounds.proofs.Late.{count_of, lanes_of, lanes_stand, sum_at_start}
use Rattle.laws_bounds.proofs.Sums.{each_below, one_of_sum, sum_below_add, sum_below_same, sum_below_scale, sum_but, sum_range}
use Rattle.laws_bounds.proofs.Wides.{sum_wides, used_is}
use Rattle.laws_load.specs.AnyMoment.{IsWithinLate, KeepsAnyMoment, leap, leeway_between, others_leeway_between}
use Rattle.laws_bounds.specs.FreeTime.{idle_by, idle_time}
use Rattle.laws_load.proofs.Leaps.{leap_covers}
use Rattle.laws_load.proofs.Reach.{sum_at_most}
use Rattle.laws_bounds.proofs.Runs.{bills_known}
use Rattle.laws_load.proofs.Shifted.{IsShifted, shifted}
use Rattle.laws_bounds.proofs.Spans.{IsSpan, span_of}
use Rattle.laws_bounds.proofs.Times.{AreKnown, all_time, is_nobody, past_whole, sum_by_same}
use Rattle.laws_bounds.proofs.Totals.{idle_is}

-- ---- sums over all but one

abbrev but : ℕ → (ℕ → ℕ) → ℕ → ℕ
but i f q = if nat_eq q i then 0 else f q

but_each : (i q x y z : ℕ) → x ≤ y + z → (if nat_eq q i then 0 else x) ≤ (if nat_eq q i then 0 else y) + (if nat_eq q i then 0 else z)
but_each i q x y z le = by_test (nat_eq q i)
  where
    by_test : (t : Bool) → (if t then 0 else x) ≤ (if t then 0 else y) + (if t then 0 else z)
    by_test true = omega arith
    by_test false = le

but_scale : (n i k : ℕ) (f : ℕ → ℕ) → sum_below n (but i (λ q. k * f q)) ≡ k * sum_below n (but i f)
but_scale n i k f = sum_below_same n (but i (λ q. k * f q)) (λ q. k * but i f q) (λ q. by_test (nat_eq q i) (f q)) ∙ sum_below_scale n k (but i f)
  where
    by_test : (t : Bool) (m : ℕ) → (if t then 0 else k * m) ≡ k * (if t then 0 else m)
    by_test true m = omega arith
    by_test false m = refl

but_add : (n i : ℕ) (f g : ℕ → ℕ) → sum_below n (but i (λ q. f q + g q)) ≡ sum_below n (but i f) + sum_below n (but i g)
but_add n i f g = sum_below_add n (but i f) (but i g) (but i (λ q. f q + g q)) (λ q. by_test (nat_eq q i) (f q) (g q))
  where
    by_test : (t : Bool) (a b : ℕ) → (if t then 0 else a + b) ≡ (if t then 0 else a) + (if t then 0 else b)
    by_test true a b = omega arith
    by_test false a b = refl

-- ---- the lower line, over variables

module _ (n parts whole p cpus tick late : ℕ) (uses budgets extra firsts inside : ℕ → ℕ)
    (last : (q : ℕ) → parts * uses q ≤ whole * budgets q + parts * (extra q + late * inside q))
    (first : (q : ℕ) → parts * uses q + parts * ((tick - late) * inside q) ≤ whole * budgets q + parts * (extra q + firsts q))
    (few : sum_below n firsts ≤ cpus * (tick - late)) (in' : p < n) where
  abbrev others : (ℕ → ℕ) → ℕ
  others f = sum_below n (but p f)

  -- the others together, by the last ticks
  others_last : parts * others uses ≤ (whole * others budgets + parts * others extra) + parts * (late * others inside)
  others_last =
      let all = each_below n (but p (λ q. parts * uses q)) (but p (λ q. whole * budgets q)) (but p (λ q. parts * (extra q + late * inside q)))
      (λ q l. but_each p q (parts * uses q) (whole * budgets q) (parts * (extra q + late * inside q)) (last q)) in
      let sum : others (λ q. extra q + late * inside q) ≡ others extra + late * others inside = but_add n p extra (λ q. late * inside q) ∙ ap (λ m. others extra + m) (but_scale n p late inside) in
      let scaled : others (λ q. parts * (extra q + late * inside q)) ≡ parts * others extra + parts * (late * others inside) =
      but_scale n p parts (λ q. extra q + late * inside q) ∙ ap (λ m. parts * m) sum ∙ mul-add parts (others extra) (late * others inside) in
      omega (arith, all, scaled, but_scale n p parts uses, but_scale n p whole budgets)

  others_few : others firsts ≤ cpus * (tick - late)
  others_few = omega (arith, few, sum_but n p firsts in')

  -- and by the first ticks
  others_first : parts * others uses + parts * ((tick - late) * others inside) ≤ (whole * others budgets + parts * others extra) + parts * (cpus * (tick - late))
  others_first =
      let left : (q : ℕ) → parts * uses q + parts * ((tick - late) * inside q) ≤ whole * budgets q + parts * (extra q + firsts q) = first in
      let all = each_below n (but p (λ q. parts * uses q + parts * ((tick - late) * inside q))) (but p (λ q. whole * budgets q)) (but p (λ q. parts * (extra q + firsts q)))
      (λ q l. but_each p q (parts * uses q + parts * ((tick - late) * inside q)) (whole * budgets q) (parts * (extra q + firsts q)) (left q)) in
      let two : others (λ q. parts * uses q + parts * ((tick - late) * inside q)) ≡ parts * others uses + parts * ((tick - late) * others inside) =
      but_add n p (λ q. parts * uses q) (λ q. parts * ((tick - late) * inside q))
      ∙ ap (λ m. m + others (λ q. parts * ((tick - late) * inside q))) (but_scale n p parts uses)
      ∙ ap (λ m. parts * others uses + m) (but_scale n p parts (λ q. (tick - late) * inside q) ∙ ap (λ m. parts * m) (but_scale n p (tick - late) inside)) in
      let scaled : others (λ q. parts * (extra q + firsts q)) ≡ parts * others extra + parts * others firsts =
      but_scale n p parts (λ q. extra q + firsts q) ∙ ap (λ m. parts * m) (but_add n p extra firsts) ∙ mul-add parts (others extra) (others firsts) in
      omega (arith, all, two, scaled, but_scale n p whole budgets, mul-le-mul_left parts others_few)

  others_within : parts * others uses ≤ (whole * others budgets + parts * others extra) + parts * leap cpus tick late
  others_within = leap_covers (parts * others uses) (whole * others budgets + parts * others extra) parts (others inside) cpus tick late others_last others_first

  pub lower : (idle : ℕ) → sum_below n budgets ≡ parts → sum_below n uses + idle ≡ whole
      → whole * budgets p ≤ parts * uses p + parts * (others extra + idle + leap cpus tick late)
  lower idle all full =
      let budget : whole * others budgets + whole * budgets p ≡ whole * parts = sym (mul-add whole (others budgets) (budgets p)) ∙ ap (λ m. whole * m) (sum_but n p budgets in' ∙ all) in
      let time : parts * (others uses + uses p + idle) ≡ parts * whole = ap (λ m. parts * m) (omega (arith, sum_but n p uses in', full)) in
      let split : parts * (others uses + uses p + idle) ≡ parts * others uses + parts * uses p + parts * idle =
      mul-add parts (others uses + uses p) idle ∙ ap (λ m. m + parts * idle) (mul-add parts (others uses) (uses p)) in
      let rest : parts * (others extra + idle + leap cpus tick late) ≡ parts * others extra + parts * idle + parts * leap cpus tick late =
      mul-add parts (others extra + idle) (leap cpus tick late) ∙ ap (λ m. m + parts * leap cpus tick late) (mul-add parts (others extra) idle) in
      omega (arith, budget, time, split, rest, others_within, mul_comm parts whole)

-- ---- all time of the window, and of its first tick

module _ (scenario : Scenario) (order : Order) (h : List Entry) (r : IsScenario scenario) (legal : IsLegal scenario order h) (a late : ℕ) (s : SchedulerState)
    (w : IsSpan scenario h a (a + s.shape.window + 1) s) (short : late < s.shape.tick) (finished : a + s.shape.window + 1 ≤ finished_ticks scenario.shape h) where
  abbrev x : ℕ
  x = a * s.shape.tick + late

  abbrev y : ℕ
  y = (a + s.shape.window) * s.shape.tick + late

  abbrev second : ℕ
  second = (a + 1) * s.shape.tick

  long : y ≡ x + s.shape.window * s.shape.tick
  long = omega (arith, add-mul a s.shape.window s.shape.tick)

  y_end : y ≤ (a + s.shape.window + 1) * s.shape.tick
  y_end = omega (arith, add-mul (a + s.shape.window) 1 s.shape.tick, short)

  inside : (tick c d lo hi from to : ℕ) → c * tick ≤ lo → hi ≤ d * tick → 0 < overlap 1 lo hi from to → 0 < overlap tick c d from to
  inside tick c d lo hi from to low high some = omega (arith, low, high, some)

  known_from : (u : SchedulerState) (g es : List Entry) → h ≡ g ++ es → AreKnown 1 x y (length s.rows) (wides_from scenario u g es)
  known_from u g [] same = tt
  known_from u g (e ∷ es) same = (
    λ some. bills_known scenario order h r legal a (a + s.shape.window + 1) s w g es e same (inside s.shape.tick a (a + s.shape.window + 1) x y e.from e.to (omega arith) y_end some),
    known_from (step scenario u g e.cpu).state (g ++ e ∷ []) es (same ∙ sym (append_assoc g (e ∷ []) es)),
  )

  all_late : All (λ (l : Lane). past 1 x y l ≡ s.shape.window * s.shape.tick) (lanes_of scenario h)
  all_late i d in' =
      let there : i < scenario.shape.cpus = rw (← count_of scenario h) in' in
      let last : (get_or (lanes_of scenario h) i d).last ≡ last_end h i =
      ap (λ (l : Lane). l.last) (get_or_default (lanes_of scenario h) i d still in') ∙ lanes_stand scenario order r h legal i in
      let late' = finished_end scenario.shape h (a + s.shape.window + 1) i finished there in
      let end : (a + s.shape.window + 1) * s.shape.tick ≤ last_end h i = subst (λ n. (a + s.shape.window + 1) * n ≤ last_end h i) (sym w.sizes.tick) late' in
      past_whole 1 x y (get_or (lanes_of scenario h) i d).last (omega (arith, long)) (omega (arith, end, last, y_end)) ∙ omega (arith, long)

  all_used : sum_below (length s.rows) (λ q. used 1 h q x y) + idle_time 1 h x y ≡ whole s.shape
  all_used =
      let n : ℕ = length s.rows in
      let ws = wides scenario h in
      let new : sum_by (past 1 x y) (lanes_at_start scenario) ≡ 0 = sum_at_start scenario (past 1 x y) (nothing x y) in
      let all = all_time 1 x y n (lanes_at_start scenario) ws (omega (arith, long)) (walks scenario order h r legal).1 (known_from _ [] h refl) in
      let full : sum_by (past 1 x y) (lanes_of scenario h) ≡ length (lanes_of scenario h) * (s.shape.window * s.shape.tick) = sum_by_same (past 1 x y) (s.shape.window * s.shape.tick) (lanes_of scenario h) all_late in
      let seats : length (lanes_of scenario h) * (s.shape.window * s.shape.tick) ≡ whole s.shape = ap (λ m. m * (s.shape.window * s.shape.tick)) (count_of scenario h ∙ sym w.sizes.cpus) ∙ whole_is s.shape.cpus s.shape.window s.shape.tick in
      let uses : sum_below n (paid_of 1 x y ws) ≡ sum_below n (λ q. used 1 h q x y) = sum_below_same n (paid_of 1 x y ws) (λ q. used 1 h q x y) (λ q. used_is scenario 1 x y q h) in
      let idle : sum_by (paid is_nobody 1 x y) ws ≡ idle_time 1 h x y = sum_wides (paid is_nobody 1 x y) (idle_by 1 x y) (idle_is 1 x y) scenario _ [] h in
      omega (arith, new, all, full, seats, uses, idle)
    where
      nothing : (x y : ℕ) → past 1 x y still ≡ 0
      nothing x y = omega arith

  -- what all use of the first tick
  first_used : sum_below (length s.rows) (λ q. used 1 h q x second) ≤ s.shape.cpus * (s.shape.tick - late)
  first_used =
      let n : ℕ = length s.rows in
      let ws = wides scenario h in
      let all = covered 1 x second n (lanes_at_start scenario) ws (walks scenario order h r legal).1 in
      let most = sum_at_most (past 1 x second) (s.shape.tick - late) part (lanes_of scenario h) in
      let seats : length (lanes_of scenario h) * (s.shape.tick - late) ≡ s.shape.cpus * (s.shape.tick - late) = ap (λ m. m * (s.shape.tick - late)) (count_of scenario h ∙ sym w.sizes.cpus) in
      let uses : sum_below n (paid_of 1 x second ws) ≡ sum_below n (λ q. used 1 h q x second) = sum_below_same n (paid_of 1 x second ws) (λ q. used 1 h q x second) (λ q. used_is scenario 1 x second q h) in
      omega (arith, all, most, seats, uses)
    where
      part : (l : Lane) → past 1 x second l ≤ s.shape.tick - late
      part l = omega (arith, add-mul a 1 s.shape.tick, short)

  -- ---- the lines

  of : (q : ℕ) → IsShifted s.shape.parts ((row_or_none s.rows q).budget * whole s.shape) (used 1 h q x y) (leeway_between scenario s.shape s.rows h x y q) (used 1 h q x second) s.shape.cpus s.shape.tick late (row_or_none s.rows q).budget
  of q = shifted scenario order h r legal a late s w short q

  pub within : (p : ℕ) → p < length s.rows → IsWithinLate scenario s.shape s.rows h a late p
  within p there =
      let n : ℕ = length s.rows in
      let parts : ℕ = s.shape.parts in
      let budgets : ℕ → ℕ = λ q. (row_or_none s.rows q).budget in
      let uses : ℕ → ℕ = λ q. used 1 h q x y in
      let extra : ℕ → ℕ = leeway_between scenario s.shape s.rows h x y in
      let firsts : ℕ → ℕ = λ q. used 1 h q x second in
      let idle : ℕ = idle_time 1 h x y in
      let swap : (q : ℕ) → budgets q * whole s.shape ≡ whole s.shape * budgets q = λ q. mul_comm (budgets q) (whole s.shape) in
      let line = lower n parts (whole s.shape) p s.shape.cpus s.shape.tick late uses budgets extra firsts (λ q. (of q).in_last)
      (λ q. subst (λ k. parts * uses q ≤ k + parts * (extra q + late * (of q).in_last)) (swap q) (of q).last)
      (λ q. subst (λ k. parts * uses q + parts * ((s.shape.tick - late) * (of q).in_last) ≤ k + parts * (extra q + firsts q)) (swap q) (of q).first)
      first_used there idle (budgets_sum s.rows parts w.funded) all_used in
      let below : budgets p * whole s.shape ≤ parts * uses p + parts * (others_leeway_between scenario s.shape s.rows h x y p + idle + leap s.shape.cpus s.shape.tick late) =
      subst (λ k. budgets p * whole s.shape ≤ parts * uses p + parts * (k + idle + leap s.shape.cpus s.shape.tick late)) (sym (sum_range n (but p extra)))
      (subst (λ k. k ≤ parts * uses p + parts * (sum_below n (but p extra) + idle + leap s.shape.cpus s.shape.tick late)) (sym (swap p)) line) in
      record { above = above (nat_eq (budgets p) 0) refl; below = below }
    where
      one : used 1 h p x second ≤ s.shape.cpus * (s.shape.tick - late)
      one = omega (arith, one_of_sum (length s.rows) p (λ q. used 1 h q x second) there, first_used)

      none_more : (parts uses limit extra late d : ℕ) → d ≡ 0 → parts * uses ≤ limit + parts * (extra + late * d) → parts * uses ≤ limit + parts * (extra + 0)
      none_more parts uses limit extra late d none line = subst (λ k. parts * uses ≤ limit + parts * (extra + k)) (ap (λ k. late * k) none ∙ mul-zero late) line

      leaps : (parts uses limit extra firsts cpus tick late d : ℕ) → firsts ≤ cpus * (tick - late) → parts * uses ≤ limit + parts * (extra + late * d)
          → parts * uses + parts * ((tick - late) * d) ≤ limit + parts * (extra + firsts) → parts * uses ≤ limit + parts * (extra + leap cpus tick late)
      leaps parts uses limit extra firsts cpus tick late d few last first =
          let last' : parts * uses ≤ (limit + parts * extra) + parts * (late * d) = omega (arith, last, mul-add parts extra (late * d)) in
          let first' : parts * uses + parts * ((tick - late) * d) ≤ (limit + parts * extra) + parts * (cpus * (tick - late)) = omega (arith, first, mul-add parts extra firsts, mul-le-mul_left parts few) in
          omega (arith, leap_covers (parts * uses) (limit + parts * extra) parts d cpus tick late last' first', mul-add parts extra (leap cpus tick late))

      above : (t : Bool) → nat_eq (row_or_none s.rows p).budget 0 ≡ t → s.shape.parts * used 1 h p x y ≤ (row_or_none s.rows p).budget * whole s.shape
          + s.shape.parts * (leeway_between scenario s.shape s.rows h x y p + (if t then 0 else leap s.shape.cpus s.shape.tick late))
      above true is = none_more s.shape.parts (used 1 h p x y) _ (leeway_between scenario s.shape s.rows h x y p) late (of p).in_last ((of p).none (eqb-true (row_or_none s.rows p).budget 0 is)) (of p).last
      above false is = leaps s.shape.parts (used 1 h p x y) _ (leeway_between scenario s.shape s.rows h x y p) (used 1 h p x second) s.shape.cpus s.shape.tick late (of p).in_last one (of p).last (of p).first

pub any_moment : (scenario : Scenario) (order : Order) (h : List Entry) → IsScenario scenario → IsLegal scenario order h → KeepsAnyMoment scenario h
any_moment scenario order h r legal a late p short finished none inside =
    let s = state_of_tick scenario h a in
    let w = span_of scenario order h a (a + s.shape.window + 1) r legal none in
    within scenario order h r legal a late s w (subst (λ n. late < n) (sym w.sizes.tick) short) finished p inside
