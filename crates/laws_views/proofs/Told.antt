-- What the window that ends with a finished tick has of a partition, by the laws of windows.
use Rattle.std.proofs.Common.{◌≡◌, ℕ, ◌+◌, ◌-◌, ◌*◌, ◌<◌, ◌≤◌, List, length, sym, ◌∙◌, ap, subst, Bool, true, false, if◌then◌else◌, ◌&&◌, nat_eq, arith, refl, inl, inr}
use Rattle.std.specs.List.{range_with_len, sum_by}
use Rattle.std.proofs.Math.Nat.{mul-pos, zero-mul}
use Rattle.std.proofs.lemmas.Bool.{and_parts, cases_lt, leb-true, not-true}
use Rattle.std.proofs.lemmas.Bool.Decides.{nat_tests}
use Rattle.std.proofs.lemmas.List.{get_or_past}
use Rattle.aps_model.specs.declared.entry.Entry.{Entry}
use Rattle.aps_model.specs.declared.entry.Order.{Order}
use Rattle.aps_model.specs.declared.partition.PartitionRow.{PartitionRow}
use Rattle.aps_model.specs.declared.shape.Shape.{Shape}
use Rattle.aps_model.specs.After.{state_after}
use Rattle.aps_model.specs.Audit.{allowance}
use Rattle.aps_model.specs.Bound.{others_slack, slack}
use Rattle.aps_model.specs.Legal.{IsLegal}
use Rattle.aps_model.specs.Limits.{most_partitions}
use Rattle.aps_model.specs.Loaded.{finished_ticks, has_change, state_of_tick}
use Rattle.aps_model.specs.Partition.{no_row, row_or_none}
use Rattle.aps_model.specs.Scenario.{Scenario}
use Rattle.aps_model.specs.SchedulerState.{SchedulerState}
use Rattle.aps_model.specs.Shape.{whole}
use Rattle.aps_model.specs.Usage.{critical_used, used}
use Rattle.aps_model.specs.Valid.{IsScenario}
use Rattle.laws_runs.specs.Rows.{AreInOrder}
use Rattle.laws_runs.proofs.HeldRows.{tick_in_order}
use Rattle.laws_bounds.proofs.Sums.{each_below, sum_below_zero, sum_range}
use Rattle.laws_bounds.specs.Excess.{leeway}
use Rattle.laws_bounds.specs.FreeTime.{free_used}
use Rattle.laws_load.specs.OwnShare.{WorksInBudget}
use Rattle.laws_bounds.proofs.Above.{above, strictly}
use Rattle.laws_load.proofs.OwnShares.{own_share}
use Rattle.laws_bounds.proofs.Spans.{IsSpan, span_of}
use Rattle.view_samples.specs.Sample.{allowance_at, critical_at_tick, first_at, free_at, had_share, has_work, is_full, is_unchanged, used_at, window_at}
use Rattle.laws_views.proofs.Amounts.{allowance_exact, beyond_none, beyond_some, none_allowed, parts_some, short_most, sum_wider, taken_most, whole_some}
use Rattle.laws_views.proofs.Picked.{always_worked, never_out}
use Rattle.laws_views.proofs.Ticks.{tick_held}

clash : false ≡ true → ⊥
clash same = cc

module _ (scenario : Scenario) (order : Order) (h : List Entry) (r : IsScenario scenario) (legal : IsLegal scenario order h) (j : ℕ) (finished : j < finished_ticks scenario.shape h)
    (calm : (is_full scenario h j && is_unchanged scenario h j) ≡ true) where
  abbrev pub a : ℕ
  a = first_at scenario h j

  abbrev pub z : SchedulerState
  z = state_of_tick scenario h j

  abbrev pub s : SchedulerState
  s = state_of_tick scenario h a

  full : window_at scenario h j ≤ j + 1
  full = leb-true (window_at scenario h j) (j + 1) (and_parts (is_full scenario h j) (is_unchanged scenario h j) calm).0

  pub none : has_change (state_after scenario h).changes a (j + 1) ≡ false
  none = not-true (has_change (state_after scenario h).changes a (j + 1)) (and_parts (is_full scenario h j) (is_unchanged scenario h j) calm).1

  from_window : (window : ℕ) → window ≤ j + 1 → j + 1 - window + window ≡ j + 1
  from_window window fits = omega (arith, fits)

  wide : a + z.shape.window ≡ j + 1
  wide = from_window (window_at scenario h j) full

  pub up : a ≤ j
  up = let long = (tick_in_order scenario order h j r legal).shape.window_long in omega (arith, long, wide)

  pub same : (z.rows ≡ s.rows) × (z.shape ≡ s.shape)
  same = tick_held scenario order h r legal j finished a up none

  pub span : IsSpan scenario h a (j + 1) s
  span = span_of scenario order h a (j + 1) r legal none

  pub in_order : AreInOrder scenario s
  in_order = tick_in_order scenario order h a r legal

  end : a + s.shape.window ≡ j + 1
  end = sym (ap (λ (x : Shape). a + x.window) same.1) ∙ wide

  short : j + 1 ≤ a + s.shape.window
  short = omega (arith, end)

  abbrev pub budget : ℕ → ℕ
  budget q = (row_or_none s.rows q).budget

  pub positive : 0 < s.shape.parts
  positive = parts_some s.shape in_order.shape

  pub exact : (q : ℕ) → s.shape.parts * allowance_at scenario h j q ≡ budget q * whole s.shape
  exact q =
      let first : allowance_at scenario h j q ≡ allowance s.shape (budget q) =
      ap (λ (x : Shape). allowance x (row_or_none z.rows q).budget) same.1 ∙ ap (λ (rows : List PartitionRow). allowance s.shape (row_or_none rows q).budget) same.0 in
      ap (λ n. s.shape.parts * n) first ∙ allowance_exact s.shape (budget q) in_order.shape

  time : s.shape.cpus * s.shape.tick ≡ scenario.shape.cpus * scenario.shape.tick
  time = ap (λ n. n * s.shape.tick) span.sizes.cpus ∙ ap (λ n. scenario.shape.cpus * n) span.sizes.tick

  some_time : 0 < s.shape.cpus * s.shape.tick
  some_time =
      let cpu = in_order.shape.some_cpu in
      let long = in_order.shape.tick_long in
      mul-pos (omega (arith, cpu)) (omega (arith, long))

  -- ---- beyond the allowance

  module _ (p : ℕ) where
    abbrev tick : ℕ
    tick = s.shape.tick

    -- the numbers of the sample, with a tick
    abbrev limit : ℕ
    limit = budget p * whole s.shape

    leeway_by : (t : Bool) → nat_eq (budget p) 0 ≡ t → leeway scenario s.shape s.rows h a (j + 1) p ≡ critical_used tick h p a (j + 1) + (if t then 0 else s.shape.cpus * tick) + free_used scenario tick h p a (j + 1)
    leeway_by t is = ap (λ k. critical_used tick h p a (j + 1) + (if k then 0 else s.shape.cpus * tick) + free_used scenario tick h p a (j + 1)) is

    by_budget : (t : Bool) → nat_eq (budget p) 0 ≡ t → used_at scenario h j p - allowance_at scenario h j p - critical_at_tick scenario h j p - free_at scenario h j p < s.shape.cpus * tick
    by_budget true is =
        let zero' : budget p ≡ 0 = grind (arith, nat_tests, is) in
        let line = subst (λ k. s.shape.parts * used tick h p a (j + 1) ≤ limit + s.shape.parts * k) (leeway_by true is) (above scenario order h r legal a (j + 1) s span short p) in
        let line' = subst (λ n. s.shape.parts * used n h p a (j + 1) ≤ limit + s.shape.parts * (critical_used n h p a (j + 1) + 0 + free_used scenario n h p a (j + 1))) span.sizes.tick line in
        beyond_none s.shape.parts (used_at scenario h j p) (allowance_at scenario h j p) limit (critical_at_tick scenario h j p) (free_at scenario h j p) (s.shape.cpus * tick) some_time positive
        (ap (λ n. n * whole s.shape) zero' ∙ zero-mul (whole s.shape)) line'
    by_budget false is =
        let some : 0 < budget p = grind (arith, nat_tests, is) in
        let line = subst (λ k. s.shape.parts * used tick h p a (j + 1) < limit + s.shape.parts * k) (leeway_by false is) (strictly scenario order h r legal a (j + 1) s span short p some) in
        let line' = subst (λ n. s.shape.parts * used n h p a (j + 1) < limit + s.shape.parts * (critical_used n h p a (j + 1) + s.shape.cpus * tick + free_used scenario n h p a (j + 1))) span.sizes.tick line in
        beyond_some s.shape.parts (used_at scenario h j p) (allowance_at scenario h j p) limit (critical_at_tick scenario h j p) (free_at scenario h j p) (s.shape.cpus * tick) some_time (exact p) line'

    -- what it used beyond its allowance, its critical and its free time is below one tick of all processors
    pub beyond_small : used_at scenario h j p - allowance_at scenario h j p - critical_at_tick scenario h j p - free_at scenario h j p < scenario.shape.cpus * scenario.shape.tick
    beyond_small =
        subst (λ n. used_at scenario h j p - allowance_at scenario h j p - critical_at_tick scenario h j p - free_at scenario h j p < n) time (by_budget (nat_eq (budget p) 0) refl)

    -- ---- below the allowance

    -- what partition q may take from it
    abbrev pub taken : ℕ → ℕ
    taken q =
        if nat_eq q p then 0
        else if nat_eq (allowance_at scenario h j q) 0 then critical_at_tick scenario h j q
        else critical_at_tick scenario h j q + scenario.shape.cpus * scenario.shape.tick

    critical_is : (q : ℕ) → critical_used s.shape.tick h q a (a + s.shape.window) ≡ critical_at_tick scenario h j q
    critical_is q = ap (λ n. critical_used n h q a (a + s.shape.window)) span.sizes.tick ∙ ap (λ b. critical_used scenario.shape.tick h q a b) end

    slack_most : (q : ℕ) → (if nat_eq q p then 0 else slack s.shape s.rows h a q) ≤ taken q + 0
    slack_most q =
        taken_most (nat_eq q p) s.shape.parts (whole s.shape) (budget q) (allowance_at scenario h j q) (critical_used s.shape.tick h q a (a + s.shape.window)) (critical_at_tick scenario h j q)
        (s.shape.cpus * s.shape.tick) (scenario.shape.cpus * scenario.shape.tick) positive (whole_some s.shape in_order.shape) (exact q) (critical_is q) time

    others_most : (others : ℕ → ℕ) → ((q : ℕ) → q < most_partitions → taken q ≤ others q) → others_slack s.shape s.rows h a p ≤ sum_by others (range_with_len 0 most_partitions)
    others_most others each =
        let n : ℕ = length s.rows in
        let few = in_order.named.few in
        let f : ℕ → ℕ = λ q. if nat_eq q p then 0 else slack s.shape s.rows h a q in
        let parts = each_below n f others (λ q. 0) (λ q less. let one = slack_most q in let two = each q (omega (arith, less, few)) in omega (arith, one, two)) in
        omega (arith, parts, sum_below_zero n (λ q. 0) (λ q. refl), sum_wider n most_partitions others few, sum_range n f, sum_range most_partitions others)

    module _ (asked : (is_full scenario h j && has_work scenario h j p) ≡ true) (never : had_share scenario h j p ≡ false) (others : ℕ → ℕ) (each : (q : ℕ) → q < most_partitions → taken q ≤ others q) where
      works : WorksInBudget scenario h p a (a + s.shape.window)
      works =
          subst (WorksInBudget scenario h p a) (sym end)
          (always_worked scenario order h p a (j + 1) r legal (omega (arith, finished)) (not-true _ (and_parts (is_full scenario h j) (has_work scenario h j p) asked).1))

      within_others : p < length s.rows → allowance_at scenario h j p - used_at scenario h j p ≤ sum_by others (range_with_len 0 most_partitions)
      within_others inside =
          let finished' : a + s.shape.window ≤ finished_ticks scenario.shape h = omega (arith, end, finished) in
          let none' : has_change (state_after scenario h).changes a (a + s.shape.window) ≡ false = subst (λ b. has_change (state_after scenario h).changes a b ≡ false) (sym end) none in
          let long = r.shape.tick_long in
          elim (own_share scenario order h r legal a p finished' none' inside works).own [
            | inl had ↦
                let spent = had.some in
                let high = subst (λ b. spent.e.to < b * scenario.shape.tick) end spent.high in
                absurd (clash (sym spent.out ∙ never_out scenario h p a (j + 1) never (omega (arith, long)) spent.before spent.later spent.e spent.same spent.low high))
            | inr gets ↦
                let line = subst (λ n. limit ≤ s.shape.parts * used n h p a (a + s.shape.window) + s.shape.parts * others_slack s.shape s.rows h a p) span.sizes.tick gets.below in
                let line' = subst (λ b. limit ≤ s.shape.parts * used scenario.shape.tick h p a b + s.shape.parts * others_slack s.shape s.rows h a p) end line in
                let most = short_most s.shape.parts (used_at scenario h j p) (allowance_at scenario h j p) limit (others_slack s.shape s.rows h a p) positive (exact p) line' in
                omega (arith, most, others_most others each)
          ]

      -- where it always had a candidate, and was always in budget, it fell short by at most what the others may take
      pub short_small : allowance_at scenario h j p - used_at scenario h j p ≤ sum_by others (range_with_len 0 most_partitions)
      short_small = elim (cases_lt p (length s.rows)) [
        | inl inside ↦ within_others inside
        | inr past ↦
            let none_left : budget p ≡ 0 = ap (λ (row : PartitionRow). row.budget) (get_or_past s.rows p no_row past) in
            let nothing = none_allowed s.shape.parts (allowance_at scenario h j p) (budget p) (whole s.shape) positive (exact p) none_left in
            omega (arith, nothing)
      ]
