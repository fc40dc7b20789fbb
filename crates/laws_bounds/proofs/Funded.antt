-- What a pick in a legal history tells of its partition's budgets.
use Rattle.std.proofs.Common.{◌≡◌, ℕ, zero, suc, ◌+◌, ◌-◌, ◌*◌, ◌/◌, ◌<◌, ◌≤◌, List, [], ◌∷◌, ◌++◌, length, map, refl, sym, ◌∙◌, ap, subst, Bool, true, false, nat_lt, Option, Some, None, arith, ◌⊎◌, inl, inr}
use Rattle.std.specs.List.{sum}
use Rattle.std.proofs.Math.Nat.{mul_assoc, mul_comm}
use Rattle.std.proofs.lemmas.Bool.{cases_lt}
use Rattle.std.proofs.lemmas.Bool.Decides.{nat_tests}
use Rattle.std.proofs.lemmas.List.{get_or_past, length-replicate}
use Rattle.std.proofs.lemmas.List.FromFn.{get_or-map-range_with_len, length-map-range_with_len}
use Rattle.std.proofs.lemmas.List.Sums.{sum-map}
use Rattle.aps_model.specs.declared.entry.Entry.{Entry}
use Rattle.aps_model.specs.declared.entry.Order.{Order}
use Rattle.aps_model.specs.declared.merit.Contender.{Contender}
use Rattle.aps_model.specs.declared.merit.PartFacts.{PartFacts}
use Rattle.aps_model.specs.declared.partition.PartitionRow.{PartitionRow}
use Rattle.aps_model.specs.declared.shape.Shape.{Shape}
use Rattle.aps_model.specs.declared.state.Facts.{Facts}
use Rattle.aps_model.specs.After.{after, state_after}
use Rattle.aps_model.specs.Budget.{all_parts, no_part, part_at, part_facts}
use Rattle.aps_model.specs.Legal.{IsLegal}
use Rattle.aps_model.specs.Merit.{class_of, is_critical_pick}
use Rattle.aps_model.specs.Partition.{no_row, row_or_none}
use Rattle.aps_model.specs.Pick.{greatest}
use Rattle.aps_model.specs.Scenario.{Scenario}
use Rattle.aps_model.specs.SchedulerState.{SchedulerState, cpu_at}
use Rattle.aps_model.specs.Shape.{whole}
use Rattle.aps_model.specs.Usage.{window_critical, window_used}
use Rattle.aps_model.specs.Valid.{IsScenario}
use Rattle.laws_runs.specs.Sizes.{IsSameSizes}
use Rattle.laws_runs.specs.Window.{Kept, kept_if, lanes_at_start, pair_kept, still, wides}
use Rattle.laws_runs.proofs.RowLaws.{in_order}
use Rattle.laws_runs.proofs.Sound.{sound, tick_pos}
use Rattle.laws_runs.proofs.Windows.{walks}
use Rattle.laws_bounds.specs.Lanes.{paid_of}
use Rattle.laws_runs.specs.Choices.{MadeNoPick}
use Rattle.laws_bounds.specs.Picks.{IsFundedPick, tick_of, wide_at}
use Rattle.laws_bounds.specs.Sums.{sum_below}
use Rattle.laws_bounds.proofs.Budget as budget
use Rattle.laws_bounds.proofs.Late.{lanes_late}
use Rattle.laws_bounds.proofs.Chosen.{IsChosen, chosen_law, keeps_of, parts_of}
use Rattle.laws_bounds.proofs.Prefixes.{latest}
use Rattle.laws_bounds.proofs.Steady.{critical_stands, ordinary_funded, steady_best}
use Rattle.laws_bounds.proofs.Sums.{sum_below_same, sum_places}
use Rattle.laws_bounds.proofs.Wides.{used_is}

abbrev pub AreFunded : SchedulerState → Type 0
AreFunded t = sum (map (λ (row : PartitionRow). row.budget) t.rows) ≡ t.shape.parts

-- ---- the partitions at a pick

part_is : (shape : Shape) (rows : List PartitionRow) (h : List Entry) (j p : ℕ) → p < length rows → part_at (all_parts shape rows h j) p ≡ part_facts shape rows h j p
part_is shape rows h j p inside = get_or-map-range_with_len (part_facts shape rows h j) 0 (length rows) p p no_part inside (omega arith)

count_is : (shape : Shape) (rows : List PartitionRow) (h : List Entry) (j : ℕ) → length (all_parts shape rows h j) ≡ length rows
count_is shape rows h j = length-map-range_with_len (part_facts shape rows h j) 0 (length rows)

-- a thread whose partition there isn't has no class
no_class : (facts : Facts) → class_of facts no_part ≡ 1 → ⊥
no_class facts is = by_test facts.critical refl
  where
    by_test : (t : Bool) → facts.critical ≡ t → ⊥
    by_test true e = absurd (omega (arith, is, ap (λ c. class_of (record facts { critical = c }) no_part) e))
    by_test false e = absurd (omega (arith, is, ap (λ c. class_of (record facts { critical = c }) no_part) e))

partition_inside : (ps : List PartFacts) (facts : Facts) (p : ℕ) → class_of facts (part_at ps p) ≡ 1 → p < length ps
partition_inside ps facts p class = elim (cases_lt p (length ps)) [
  | inl inside ↦ inside
  | inr past ↦ absurd (no_class facts (sym (ap (class_of facts) (get_or_past ps p no_part past)) ∙ class))
]

-- ---- some partition is in budget

boundary_above : (tick z : ℕ) → 0 < tick → z < (z / tick + 1) * tick
boundary_above tick z pos = search (arith)

some_factor : (n k b : ℕ) → n < k * b → 0 < b
some_factor n k zero less = absurd (omega (arith, less))
some_factor n k (suc b) less = omega arith

pub budgets_sum : (rows : List PartitionRow) (parts : ℕ) → sum (map (λ (row : PartitionRow). row.budget) rows) ≡ parts → sum_below (length rows) (λ p. (row_or_none rows p).budget) ≡ parts
budgets_sum rows parts all = sum_places (λ (row : PartitionRow). row.budget) no_row rows ∙ sym (sum-map (λ (row : PartitionRow). row.budget) rows) ∙ all

-- in each state of a legal history less than the whole of the window at its tick was billed, so some partition is in budget
pub record IsInBudget (t : SchedulerState) (h : List Entry) (e : Entry) (q : ℕ) : Type 0 where
  pub inside : q < length t.rows
  pub less : t.shape.parts * window_used t.shape (h ++ e ∷ []) (tick_of t e) q < (row_or_none t.rows q).budget * whole t.shape

pub whole_is : (m w t : ℕ) → m * (w * t) ≡ m * w * t
whole_is m w t = sym (mul_assoc m w t)

some_in_budget : (scenario : Scenario) (order : Order) (h : List Entry) (e : Entry) → IsScenario scenario → IsLegal scenario order (h ++ e ∷ [])
    → AreFunded (state_after scenario (h ++ e ∷ [])) → 0 < (state_after scenario (h ++ e ∷ [])).shape.window
    → (q : ℕ) × IsInBudget (state_after scenario (h ++ e ∷ [])) h e q
some_in_budget scenario order h e r legal funded some =
    let t = state_after scenario (h ++ e ∷ []) in
    let tick : ℕ = t.shape.tick in
    let w : ℕ = t.shape.window in
    let j : ℕ = tick_of t e in
    let n : ℕ = length t.rows in
    let sizes = (sound scenario order r (h ++ e ∷ []) legal).grounded.sizes in
    let pos : 0 < tick = tick_pos scenario t r sizes in
    let count : length (lanes_at_start scenario) ≡ t.shape.cpus = length-replicate scenario.shape.cpus still ∙ sym sizes.cpus in
    let seats : 0 < length (lanes_at_start scenario) = let m = r.shape.some_cpu in omega (arith, m, count, sizes.cpus) in
    let less = budget.below tick (j + 1 - w) w j e.to n (lanes_at_start scenario) (wides scenario (h ++ e ∷ [])) pos some seats (boundary_above tick e.to pos) refl
    (walks scenario order (h ++ e ∷ []) r legal).1 (lanes_late scenario e.to (h ++ e ∷ []) (latest scenario order r h e legal)) in
    let uses : ℕ → ℕ = window_used t.shape (h ++ e ∷ []) j in
    let same : sum_below n (paid_of tick (j + 1 - w) (j + 1) (wides scenario (h ++ e ∷ []))) ≡ sum_below n uses =
    sum_below_same n (paid_of tick (j + 1 - w) (j + 1) (wides scenario (h ++ e ∷ []))) uses (λ p. used_is scenario tick (j + 1 - w) (j + 1) p (h ++ e ∷ [])) in
    let whole' : length (lanes_at_start scenario) * (w * tick) ≡ whole t.shape = ap (λ m. m * (w * tick)) count ∙ whole_is t.shape.cpus w tick in
    let found = budget.in_budget n t.shape.parts (whole t.shape) uses (λ p. (row_or_none t.rows p).budget) (parts_pos scenario t r sizes) (budgets_sum t.rows t.shape.parts funded) (omega (arith, less, same, whole')) in
    (found.0, record { inside = found.1; less = subst (λ k. t.shape.parts * uses found.0 < k) (mul_comm (whole t.shape) (row_or_none t.rows found.0).budget) found.2 })
  where
    parts_pos : (scenario : Scenario) (t : SchedulerState) → IsScenario scenario → IsSameSizes scenario.shape t.shape → 0 < t.shape.parts
    parts_pos scenario t r sizes = elim r.shape.parts [
      | inl is ↦ omega (arith, is, sizes.parts)
      | inr is ↦ omega (arith, is, sizes.parts)
    ]

-- ---- a steady pick

funded_less : (shape : Shape) (rows : List PartitionRow) (h : List Entry) (j p : ℕ) → p < length rows → (part_at (all_parts shape rows h j) p).funded ≡ true
    → shape.parts * window_used shape h j p < (row_or_none rows p).budget * whole shape
funded_less shape rows h j p inside funded =
    let test : nat_lt (shape.parts * window_used shape h j p) ((row_or_none rows p).budget * whole shape) ≡ true = sym (ap (λ (f : PartFacts). f.funded) (part_is shape rows h j p inside)) ∙ funded in
    grind (arith, nat_tests)

less_funded : (shape : Shape) (rows : List PartitionRow) (h : List Entry) (j p : ℕ) → p < length rows → shape.parts * window_used shape h j p < (row_or_none rows p).budget * whole shape
    → (part_at (all_parts shape rows h j) p).funded ≡ true
less_funded shape rows h j p inside less =
    let test : nat_lt (shape.parts * window_used shape h j p) ((row_or_none rows p).budget * whole shape) ≡ true = grind (arith, nat_tests) in
    ap (λ (f : PartFacts). f.funded) (part_is shape rows h j p inside) ∙ test

funded_pick : (scenario : Scenario) (h : List Entry) (e : Entry) (q : ℕ) → e.starved ≡ None → IsChosen h e (state_after scenario (h ++ e ∷ [])) → IsInBudget (state_after scenario (h ++ e ∷ [])) h e q
    → IsFundedPick scenario h e (state_after scenario (h ++ e ∷ []))
funded_pick scenario h e q calm chosen in' =
    let t = state_after scenario (h ++ e ∷ []) in
    let ps = parts_of t h e in
    let g = h ++ e ∷ [] in
    let count : length ps ≡ length t.rows = count_is t.shape t.rows g (tick_of t e) in
    let some : 0 < (row_or_none t.rows q).budget = some_budget (t.shape.parts * window_used t.shape g (tick_of t e) q) (row_or_none t.rows q).budget (whole t.shape) in'.less in
    let budget : 0 < (part_at ps q).budget = subst (λ (f : PartFacts). 0 < f.budget) (sym (part_is t.shape t.rows g (tick_of t e) q in'.inside)) some in
    let found = steady_best t.shape.free ps chosen.ready q (sym chosen.starved ∙ calm) (subst (λ n. q < n) (sym count) in'.inside) budget (less_funded t.shape t.rows g (tick_of t e) q in'.inside in'.less) in
    let facts : Facts = found.best.facts in
    let inside : facts.partition < length t.rows = subst (λ n. facts.partition < n) count (partition_inside ps facts facts.partition found.class) in
    record {
      partition = facts.partition;
      mark = is_critical_pick facts (part_at ps facts.partition);
      keeps = chosen.keeps ∙ ap (keeps_of ps) found.is;
      inside = inside;
      ordinary = λ unmarked. funded_less t.shape t.rows g (tick_of t e) facts.partition inside (ordinary_funded facts (part_at ps facts.partition) found.class unmarked);
    }
  where
    some_budget : (n b k : ℕ) → n < b * k → 0 < b
    some_budget n b k less = some_factor n k b (omega (arith, less, mul_comm b k))

pub steady_pick : (scenario : Scenario) (order : Order) (h : List Entry) (e : Entry) → IsScenario scenario → IsLegal scenario order (h ++ e ∷ [])
    → e.starved ≡ None
    → MadeNoPick (state_after scenario h) e (after scenario (h ++ e ∷ [])).reboot ⊎ IsFundedPick scenario h e (state_after scenario (h ++ e ∷ []))
steady_pick scenario order h e r legal calm = elim (chosen_law scenario order h e r legal) [
  | inl no_pick ↦ inl no_pick
  | inr chosen ↦
      let o = in_order scenario order (h ++ e ∷ []) r legal in
      let long = o.shape.window_long in
      let found = some_in_budget scenario order h e r legal (o.funded.budgets ∙ sym o.sizes.parts) (omega (arith, long)) in
      inr (funded_pick scenario h e found.0 calm chosen found.1)
]

-- ---- a critical pick

same_kept : (p q : ℕ) (a b : Bool) → ◌≡◌ {A = Kept} (Some (p, a)) (Some (q, b)) → (p ≡ q) × (a ≡ b)
same_kept p q a b e =
    let pair = some_same (p, a) (q, b) e in
    (ap (λ (k : ℕ × Bool). k.0) pair, ap (λ (k : ℕ × Bool). k.1) pair)
  where
    some_same : (k l : ℕ × Bool) → Some k ≡ Some l → k ≡ l
    some_same k l e = cc

-- a critical pick has critical budget left
pub critical_pick : (scenario : Scenario) (order : Order) (h : List Entry) (e : Entry) (p : ℕ) → IsScenario scenario → IsLegal scenario order (h ++ e ∷ [])
    → (wide_at scenario h e).keeps ≡ Some (p, true)
    → window_critical (state_after scenario (h ++ e ∷ [])).shape (h ++ e ∷ []) (tick_of (state_after scenario (h ++ e ∷ [])) e) p < (row_or_none (state_after scenario (h ++ e ∷ [])).rows p).critical
critical_pick scenario order h e p r legal keeps = elim (chosen_law scenario order h e r legal) [
  | inl no_pick ↦ absurd (nobody e.picked (pair_kept (cpu_at t e.cpu).running) no_pick.none keeps)
  | inr chosen ↦ by_best (greatest t.shape.free ps chosen.ready) (sym chosen.keeps ∙ keeps)
]
  where
    t : SchedulerState
    t = state_after scenario (h ++ e ∷ [])

    ps : List PartFacts
    ps = parts_of t h e

    nobody : (o : Option ℕ) (kept : Kept) → o ≡ None → kept_if o kept ≡ Some (p, true) → ⊥
    nobody None kept is keeps = cc
    nobody (Some x) kept is keeps = cc

    clash : false ≡ true → ⊥
    clash is = cc

    stands : (p : ℕ) → (part_at ps p).standing ≡ true → window_critical t.shape (h ++ e ∷ []) (tick_of t e) p < (row_or_none t.rows p).critical
    stands p standing = elim (cases_lt p (length t.rows)) [
      | inl inside ↦
          let test : nat_lt (window_critical t.shape (h ++ e ∷ []) (tick_of t e) p) (row_or_none t.rows p).critical ≡ true =
          sym (ap (λ (f : PartFacts). f.standing) (part_is t.shape t.rows (h ++ e ∷ []) (tick_of t e) p inside)) ∙ standing in
          grind (arith, nat_tests)
      | inr past ↦
          let past' : length ps ≤ p = rw (count_is t.shape t.rows (h ++ e ∷ []) (tick_of t e)) past in
          absurd (clash (sym (ap (λ (f : PartFacts). f.standing) (get_or_past ps p no_part past')) ∙ standing))
    ]

    by_best : (best : Option Contender) → keeps_of ps best ≡ Some (p, true) → window_critical t.shape (h ++ e ∷ []) (tick_of t e) p < (row_or_none t.rows p).critical
    by_best None is = absurd cc
    by_best (Some b) is =
        let both = same_kept b.facts.partition p (is_critical_pick b.facts (part_at ps b.facts.partition)) true is in
        stands p (subst (λ q. (part_at ps q).standing ≡ true) both.0 (critical_stands b.facts (part_at ps b.facts.partition) both.1))
