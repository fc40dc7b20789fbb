-- A partition that has work gets its share.
use Rattle.std.proofs.Common.{◌≡◌, ℕ, ◌+◌, ◌-◌, ◌*◌, ◌/◌, ◌<◌, ◌≤◌, List, [], ◌∷◌, ◌++◌, length, refl, sym, ◌∙◌, ap, subst, append_assoc, Bool, true, false, if◌then◌else◌, nat_eq, nat_lt, arith, ◌⊎◌, inl, inr}
use Rattle.std.specs.List.{range_with_len}
use Rattle.std.proofs.Math.Nat.{mul-le-mul_left, mul-le-mul_right, mul-zero}
use Rattle.std.proofs.lemmas.Bool.Decides.{nat_tests}
use Rattle.std.proofs.lemmas.List.Sums.{sum_by-append, sum_by-cons}
use Rattle.aps_model.specs.declared.entry.Entry.{Entry}
use Rattle.aps_model.specs.declared.entry.Order.{Order}
use Rattle.aps_model.specs.declared.partition.PartitionRow.{PartitionRow}
use Rattle.aps_model.specs.declared.shape.Shape.{Shape}
use Rattle.aps_model.specs.After.{state_after}
use Rattle.aps_model.specs.Bound.{others_slack}
use Rattle.aps_model.specs.Budget.{part_facts}
use Rattle.aps_model.specs.Legal.{IsLegal}
use Rattle.aps_model.specs.Loaded.{finished_ticks, has_change, state_of_tick}
use Rattle.aps_model.specs.Partition.{row_or_none}
use Rattle.aps_model.specs.Scenario.{Scenario}
use Rattle.aps_model.specs.SchedulerState.{SchedulerState}
use Rattle.aps_model.specs.Shape.{whole}
use Rattle.aps_model.specs.Usage.{billed_by, names, overlap, used, window_used}
use Rattle.aps_model.specs.Valid.{IsScenario}
use Rattle.laws_runs.proofs.Words.{up_to}
use Rattle.laws_bounds.specs.Lanes.{in_window}
use Rattle.laws_bounds.proofs.Inside.{in_ticks, inside_window, window_ends}
use Rattle.laws_bounds.specs.Excess.{leeway, margin, others_leeway, others_margin}
use Rattle.laws_bounds.specs.FreeTime.{free_used, idle_time}
use Rattle.laws_bounds.specs.Kinds.{is_funded}
use Rattle.laws_load.specs.OwnShare.{FindsSpent, HasOwnShare, HasWholeShare, IsSupplied, KeepsOwnShare, KeepsSupply, SharesInTime, SharesInTwo, WorksInBudget}
use Rattle.laws_bounds.specs.Served.{AreTicksServed}
use Rattle.laws_bounds.proofs.Below.{excess}
use Rattle.laws_bounds.proofs.Marked.{Along, along_at}
use Rattle.laws_load.proofs.ServedPicks.{class_one_is_served}
use Rattle.laws_bounds.proofs.ServedTicks.{full, makes_pick, served_window_bound, sum_alike}
use Rattle.laws_bounds.proofs.Spans.{IsSpan, funded_there, span_of}

-- ---- sums

overlap_wider : (tick a b c d from to : ℕ) → c ≤ a → b ≤ d → overlap tick a b from to ≤ overlap tick c d from to
overlap_wider tick a b c d from to low high = omega (arith, mul-le-mul_right tick low, mul-le-mul_right tick high)

counted : (one : Bool) (k n : ℕ) → k ≤ n → (if one then k else 0) ≤ (if one then n else 0)
counted true k n le = le
counted false k n le = omega arith

-- more ticks have no less
pub used_wider : (tick p a b c d : ℕ) (h : List Entry) → c ≤ a → b ≤ d → used tick h p a b ≤ used tick h p c d
used_wider tick p a b c d [] low high = omega arith
used_wider tick p a b c d (e ∷ es) low high =
    omega (
      arith,
      sum_by-cons (billed_by tick p a b) e es,
      sum_by-cons (billed_by tick p c d) e es,
      used_wider tick p a b c d es low high,
      counted (names e.billed p) (overlap tick a b e.from e.to) (overlap tick c d e.from e.to) (overlap_wider tick a b c d e.from e.to low high),
    )

-- nor has a longer history
pub used_longer : (tick p a b : ℕ) (g more : List Entry) → used tick g p a b ≤ used tick (g ++ more) p a b
used_longer tick p a b g more = omega (arith, sum_by-append (billed_by tick p a b) g more)

-- ---- out of budget

unfunded_whole : (shape : Shape) (rows : List PartitionRow) (h : List Entry) (j p : ℕ) → (part_facts shape rows h j p).funded ≡ false → HasWholeShare shape rows h j p
unfunded_whole shape rows h j p out =
    let n : ℕ = shape.parts * window_used shape h j p in
    let test : nat_lt n ((row_or_none rows p).budget * whole shape) ≡ false = out in
    grind (arith, nat_tests)

module _ (scenario : Scenario) (order : Order) (h : List Entry) (r : IsScenario scenario) (legal : IsLegal scenario order h) (a b : ℕ) (s : SchedulerState) (w : IsSpan scenario h a b s) (p : ℕ) where
  -- at a pick that finds it out of budget it has had its whole share
  whole_share : (spent : FindsSpent scenario h p a b) → HasWholeShare s.shape s.rows h (spent.e.to / s.shape.tick) p
  whole_share spent =
      let e = spent.e in
      let g = spent.before ++ e ∷ [] in
      let j : ℕ = e.to / s.shape.tick in
      let inside : in_window s.shape.tick a b e.to ≡ true = subst (λ n. in_window n a b e.to ≡ true) (sym w.sizes.tick) (inside_window scenario.shape.tick a b e.to spent.low spent.high) in
      let held = w.holds spent.before spent.later e spent.same inside in
      let seen : HasWholeShare s.shape s.rows g j p = unfunded_whole s.shape s.rows g j p (sym (funded_there scenario spent.before e p s held) ∙ spent.out) in
      let split : h ≡ g ++ spent.later = spent.same ∙ sym (append_assoc spent.before (e ∷ []) spent.later) in
      let more : window_used s.shape g j p ≤ window_used s.shape h j p =
      subst (λ (l : List Entry). window_used s.shape g j p ≤ window_used s.shape l j p) (sym split) (used_longer s.shape.tick p (j + 1 - s.shape.window) (j + 1) g spent.later) in
      omega (arith, seen, mul-le-mul_left s.shape.parts more)

  -- some pick finds it out of budget, or none does
  abbrev InBudgetThere : List Entry → Entry → Type 0
  InBudgetThere before e = in_window scenario.shape.tick a b e.to ≡ true → is_funded scenario (before ++ e ∷ []) p ≡ true

  found_more : (g es : List Entry) (e : Entry) (one two : Bool) → h ≡ g ++ e ∷ es → in_window scenario.shape.tick a b e.to ≡ one → is_funded scenario (g ++ e ∷ []) p ≡ two
      → FindsSpent scenario h p a b ⊎ Along InBudgetThere (g ++ e ∷ []) es → FindsSpent scenario h p a b ⊎ Along InBudgetThere g (e ∷ es)
  found_more g es e true false same is_one is_two rest =
      let ends = window_ends scenario.shape.tick a b e.to is_one in
      inl (record { before = g; later = es; e = e; same = same; low = ends.0; high = ends.1; out = is_two })
  found_more g es e one two same is_one is_two (inl found) = inl found
  found_more g es e true true same is_one is_two (inr all) = inr (λ inside. is_two, all)
  found_more g es e false two same is_one is_two (inr all) = inr (λ inside. absurd (clash (sym is_one ∙ inside)), all)
    where
      clash : false ≡ true → ⊥
      clash e = cc

  found_from : (g es : List Entry) → h ≡ g ++ es → FindsSpent scenario h p a b ⊎ Along InBudgetThere g es
  found_from g [] same = inr tt
  found_from g (e ∷ es) same =
      found_more g es e (in_window scenario.shape.tick a b e.to) (is_funded scenario (g ++ e ∷ []) p) same refl refl
      (found_from (g ++ e ∷ []) es (same ∙ sym (append_assoc g (e ∷ []) es)))

  -- where each pick is of the partition in budget, and it has work, the ticks are served
  served_by : b ≤ finished_ticks scenario.shape h → IsSupplied scenario h p a b → AreTicksServed scenario h a b
  served_by finished supplied before later e same low high =
      let front = up_to scenario order h before later e same legal in
      let has = supplied before later e same low high in
      elim (class_one_is_served scenario order before e r front) [
        | inl no_pick ↦ absurd (makes_pick scenario order h before later e b r legal same finished high no_pick)
        | inr one ↦ one.work p has.0 has.1
      ]

-- ---- the own share

last_window : (a n : ℕ) → 0 < n → (a + n - 1) + 1 - n ≡ a
last_window a n some = omega (arith, some)

module _ (scenario : Scenario) (order : Order) (h : List Entry) (r : IsScenario scenario) (legal : IsLegal scenario order h) (a p : ℕ) where
  abbrev s : SchedulerState
  s = state_of_tick scenario h a

  abbrev b : ℕ
  b = a + s.shape.window

  abbrev share : ℕ
  share = (row_or_none s.rows p).budget * whole s.shape

  own : b ≤ finished_ticks scenario.shape h → has_change (state_after scenario h).changes a b ≡ false → p < length s.rows → WorksInBudget scenario h p a b → IsSpan scenario h a b s
      → HasOwnShare scenario s.shape s.rows h a p
  own finished none inside works w = elim (found_from scenario order h r legal a b s w p [] h refl) [
    | inl spent ↦ inl (record { some = spent; each = whole_share scenario order h r legal a b s w p })
    | inr all ↦
        let supplied : IsSupplied scenario h p a b = λ before later e same low high.
        let is = along_at (InBudgetThere scenario order h r legal a b s w p) [] before later e (subst (Along (InBudgetThere scenario order h r legal a b s w p) []) same all) (inside_window scenario.shape.tick a b e.to low high) in
        (is, works before later e same low high is) in
        let served = served_by scenario order h r legal a b s w p finished supplied in
        inr (record { served = served; below = (served_window_bound scenario order h r legal a p finished none served inside).below })
  ]

  in_time : IsSpan scenario h a b s → HasOwnShare scenario s.shape s.rows h a p → SharesInTime s.shape s.rows h a p
  in_time w (inl had) =
      let spent = had.some in
      let pos : 0 < scenario.shape.tick = let l = r.shape.tick_long in omega (arith, l) in
      let i = in_ticks scenario.shape.tick a b spent.e.to pos (inside_window scenario.shape.tick a b spent.e.to spent.low spent.high) in
      let each = had.each spent in
      record {
        tick = spent.e.to / s.shape.tick;
        from = subst (λ n. a ≤ spent.e.to / n) (sym w.sizes.tick) i.from;
        below = subst (λ n. spent.e.to / n < b) (sym w.sizes.tick) i.below;
        share = omega (arith, each);
      }
  in_time w (inr gets) =
      let some = w.some in
      let below = gets.below in
      let same : window_used s.shape h (b - 1) p ≡ used s.shape.tick h p a b =
      ap (λ n. used s.shape.tick h p n (b - 1 + 1)) (last_window a s.shape.window some) ∙ ap (used s.shape.tick h p a) (omega (arith, some)) in
      record {
        tick = b - 1;
        from = omega (arith, some);
        below = omega (arith, some);
        share = subst (λ k. share ≤ s.shape.parts * k + s.shape.parts * others_slack s.shape s.rows h a p) (sym same) below;
      }

  in_two : SharesInTime s.shape s.rows h a p → SharesInTwo s.shape s.rows h a p
  in_two found =
      let j : ℕ = found.tick in
      let from = found.from in
      let below = found.below in
      let enough = found.share in
      let wider = used_wider s.shape.tick p (j + 1 - s.shape.window) (j + 1) (a + 1 - s.shape.window) b h (omega (arith, from)) (omega (arith, below)) in
      omega (arith, enough, mul-le-mul_left s.shape.parts wider)

pub own_share : (scenario : Scenario) (order : Order) (h : List Entry) → IsScenario scenario → IsLegal scenario order h → KeepsOwnShare scenario h
own_share scenario order h r legal a p finished none inside works =
    let s = state_of_tick scenario h a in
    let b : ℕ = a + s.shape.window in
    let w = span_of scenario order h a b r legal none in
    let mine = own scenario order h r legal a p finished none inside works w in
    let timely = in_time scenario order h r legal a p w mine in
    record { own = mine; in_time = timely; in_two = in_two scenario order h r legal a p timely }

-- ---- supply

pub supply : (scenario : Scenario) (order : Order) (h : List Entry) → IsScenario scenario → IsLegal scenario order h → KeepsSupply scenario h
supply scenario order h r legal a b p up short finished none inside supplied =
    let s = state_of_tick scenario h a in
    let w = span_of scenario order h a b r legal none in
    let served = served_by scenario order h r legal a b s w p finished supplied in
    let f = full scenario order h r legal a b served in
    let line = (excess scenario order h r legal a b p up short finished none inside).below in
    let free_none : (q : ℕ) → free_used scenario s.shape.tick h q a b ≡ 0 = λ q. ap (λ n. free_used scenario n h q a b) w.sizes.tick ∙ f.free q in
    let idle_none : idle_time s.shape.tick h a b ≡ 0 = ap (λ n. idle_time n h a b) w.sizes.tick ∙ f.idle in
    let others : others_leeway scenario s.shape s.rows h a b p ≡ others_margin s.shape s.rows h a b p =
    sum_alike (λ q. if nat_eq q p then 0 else leeway scenario s.shape s.rows h a b q) (λ q. if nat_eq q p then 0 else margin s.shape s.rows h a b q)
    (λ q. ap (λ n. if nat_eq q p then 0 else n) (omega (arith, free_none q))) (range_with_len 0 (length s.rows)) in
    let rest : s.shape.parts * (s.shape.cpus * ((b - a) * s.shape.tick)) ≤ s.shape.parts * used s.shape.tick h p a b + (s.shape.parts - (row_or_none s.rows p).budget) * whole s.shape + s.shape.parts * others_margin s.shape s.rows h a b p =
    subst (λ k. s.shape.parts * (s.shape.cpus * ((b - a) * s.shape.tick)) ≤ s.shape.parts * used s.shape.tick h p a b + (s.shape.parts - (row_or_none s.rows p).budget) * whole s.shape + s.shape.parts * k)
    (omega (arith, others, idle_none)) line in
    record { rest = rest; few = λ none. few s.shape.parts _ _ _ _ none rest }
  where
    few : (parts all spent others margins : ℕ) → spent ≡ 0 → parts * all ≤ parts * spent + others + margins → parts * all ≤ others + margins
    few parts all spent others margins none line = let zero' : parts * spent ≡ 0 = ap (λ n. parts * n) none ∙ mul-zero parts in omega (arith, line, zero')
