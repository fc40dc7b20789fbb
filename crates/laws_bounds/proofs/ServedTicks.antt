-- Served ticks.
use Rattle.std.proofs.Common.{◌≡◌, ℕ, zero, suc, ◌+◌, ◌-◌, ◌*◌, ◌/◌, ◌<◌, ◌≤◌, List, [], ◌∷◌, ◌++◌, length, refl, sym, ◌∙◌, ap, subst, append_assoc, Bool, true, false, if◌then◌else◌, ◌&&◌, ◌||◌, nat_eq, nat_lt, Option, Some, None, arith, inl, inr}
use Rattle.std.specs.Prelude.{IsTrue, is_some, unwrap_or}
use Rattle.std.specs.List.{list_any, range_with_len, sum_by}
use Rattle.std.proofs.Math.Nat.{add-mul}
use Rattle.std.proofs.lemmas.Bool.Decides.{nat_tests}
use Rattle.std.proofs.lemmas.List.Sums.{sum_by-cons}
use Rattle.aps_model.specs.declared.entry.Entry.{Entry}
use Rattle.aps_model.specs.declared.entry.Order.{Order}
use Rattle.aps_model.specs.After.{after, state_after}
use Rattle.aps_model.specs.Bound.{others_slack, slack}
use Rattle.aps_model.specs.Due.{last_end, last_to}
use Rattle.aps_model.specs.Legal.{IsLegal}
use Rattle.aps_model.specs.Loaded.{finished_ticks, is_among, state_of_tick}
use Rattle.aps_model.specs.Partition.{row_or_none}
use Rattle.aps_model.specs.Scenario.{Scenario}
use Rattle.aps_model.specs.SchedulerState.{SchedulerState}
use Rattle.aps_model.specs.Shape.{horizon, whole}
use Rattle.aps_model.specs.Usage.{names, overlap, used}
use Rattle.aps_model.specs.Valid.{IsScenario}
use Rattle.laws_runs.specs.Window.{Kept, bill_with_mark}
use Rattle.laws_bounds.specs.Lanes.{is_of}
use Rattle.laws_bounds.specs.Excess.{leeway, others_leeway}
use Rattle.laws_bounds.specs.FreeTime.{free_by, free_used, idle_by, idle_time, sum_along}
use Rattle.laws_bounds.specs.Kinds.{Kind, Kind.idle, Kind.funded, Kind.critical, Kind.free, is_free, is_funded, is_served, kind_by, kind_of, last_kind}
use Rattle.laws_bounds.specs.Served.{FillsServed, HasNoFreePick, HasNoFreeTime, AreTicksFull, AreTicksServed, IsServedPick, KeepsServedBound, ServesSteady}
use Rattle.laws_bounds.proofs.Below.{excess}
use Rattle.laws_bounds.proofs.Runs.{bills_last, runs_pick}
use Rattle.laws_bounds.proofs.Spans.{funded_there, span_of}
use Rattle.laws_bounds.specs.Picks.{IsFundedPick, wide_at}
use Rattle.laws_bounds.proofs.Finished.{finished_end}
use Rattle.laws_bounds.proofs.SteadyTicks.{steady_parts}
use Rattle.laws_bounds.proofs.Funded.{budgets_sum, steady_pick, whole_is}
use Rattle.laws_bounds.proofs.Inside.{IsInTicks, in_ticks, inside_window, window_ends}
use Rattle.laws_bounds.proofs.Sums.{one_of_sum}
use Rattle.laws_runs.specs.Choices.{MadeNoPick}
use Rattle.laws_runs.specs.Sound.{IsSound}
use Rattle.laws_runs.proofs.MomentLaws.{last_own}
use Rattle.laws_runs.proofs.Sound.{legal_last, running_on, sound}
use Rattle.laws_runs.proofs.StepOf.{horizon_same}
use Rattle.laws_runs.proofs.Words.{up_to}
use Rattle.aps_model.specs.Budget.{part_facts}
use Rattle.aps_model.specs.Usage.{window_used}
use Rattle.aps_model.specs.Loaded.{has_starved}

-- ---- served ticks are full

no_time : (k : ℕ) (t : Bool) → (0 < k → t ≡ false) → (if t then k else 0) ≡ 0
no_time zero true never = refl
no_time zero false never = refl
no_time (suc k) true never = absurd (clash (never (omega arith)))
  where
    clash : true ≡ false → ⊥
    clash e = cc
no_time (suc k) false never = refl

no_idle : (k : ℕ) (t : Bool) → (0 < k → t ≡ true) → (if t then 0 else k) ≡ 0
no_idle k true always = refl
no_idle zero false always = refl
no_idle (suc k) false always = absurd (clash (always (omega arith)))
  where
    clash : false ≡ true → ⊥
    clash e = cc

served_some : (test : ℕ → Bool) (kept : Kept) → IsTrue (is_served (kind_by test kept)) → (k : ℕ × Bool) × (kept ≡ Some k)
served_some test None served = absurd (clash served)
  where
    clash : false ≡ true → ⊥
    clash e = cc
served_some test (Some k) served = (k, refl)

served_busy : (kind : Kind) → IsTrue (is_served kind) → is_free kind ≡ false
served_busy idle served = refl
served_busy funded served = refl
served_busy critical served = refl
served_busy free served = absurd (clash served)
  where
    clash : false ≡ true → ⊥
    clash e = cc

bills_some : (e : Entry) (k : ℕ × Bool) → bill_with_mark e ≡ Some k → is_some e.billed ≡ true
bills_some e k is = by_billed e.billed refl is
  where
    by_billed : (o : Option ℕ) → e.billed ≡ o → bill_with_mark (record e { billed = o }) ≡ Some k → is_some o ≡ true
    by_billed None same is = absurd cc
    by_billed (Some q) same is = refl

module _ (scenario : Scenario) (order : Order) (h : List Entry) (r : IsScenario scenario) (legal : IsLegal scenario order h) (a b : ℕ) (served : AreTicksServed scenario h a b) where
  -- an entry that reaches into served ticks runs a pick of class 1
  runs_served : (before later : List Entry) (e : Entry) → h ≡ before ++ e ∷ later → 0 < overlap scenario.shape.tick a b e.from e.to
      → IsTrue (is_served (last_kind scenario before e.cpu)) × (is_some e.billed ≡ true)
  runs_served before later e same some =
      let runs = runs_pick scenario order h r legal a b before later e same some in
      let last = runs.last in
      let ends = window_ends scenario.shape.tick a b last.e.to runs.inside in
      let pick = served last.before (last.later ++ e ∷ later) last.e runs.split ends.0 ends.1 in
      let found = served_some (is_funded scenario (last.before ++ last.e ∷ [])) (wide_at scenario last.before last.e).keeps pick in (
        subst (λ kind. IsTrue (is_served kind)) (sym last.kind) pick,
        bills_some e found.0 (bills_last scenario order h r legal a b before later e same ∙ last.keeps ∙ found.1),
      )

  none_free : (p : ℕ) (g es : List Entry) → h ≡ g ++ es → sum_along (free_by scenario scenario.shape.tick p a b) g es ≡ 0
  none_free p g [] same = refl
  none_free p g (e ∷ es) same =
      let here : free_by scenario scenario.shape.tick p a b g e ≡ 0 =
      no_time (overlap scenario.shape.tick a b e.from e.to) (names e.billed p && is_free (last_kind scenario g e.cpu))
      (λ some. both (names e.billed p) (is_free (last_kind scenario g e.cpu)) (served_busy (last_kind scenario g e.cpu) (runs_served g es e same some).0)) in
      omega (arith, here, none_free p (g ++ e ∷ []) es (same ∙ sym (append_assoc g (e ∷ []) es)))
    where
      both : (one two : Bool) → two ≡ false → (one && two) ≡ false
      both true two is = is
      both false two is = refl

  none_idle : (g es : List Entry) → h ≡ g ++ es → sum_by (idle_by scenario.shape.tick a b) es ≡ 0
  none_idle g [] same = refl
  none_idle g (e ∷ es) same =
      let here : idle_by scenario.shape.tick a b e ≡ 0 =
      no_idle (overlap scenario.shape.tick a b e.from e.to) (is_some e.billed) (λ some. (runs_served g es e same some).1) in
      omega (arith, here, sum_by-cons (idle_by scenario.shape.tick a b) e es, none_idle (g ++ e ∷ []) es (same ∙ sym (append_assoc g (e ∷ []) es)))

  pub full : AreTicksFull scenario h a b
  full = record { free = λ p. none_free p [] h refl; idle = none_idle [] h refl }

pub served_is_full : (scenario : Scenario) (order : Order) (h : List Entry) → IsScenario scenario → IsLegal scenario order h → FillsServed scenario h
served_is_full scenario order h r legal a b served = full scenario order h r legal a b served

-- ---- no free pick of a partition

named_of : (p : ℕ) (e : Entry) (kept : Kept) → bill_with_mark e ≡ kept → names e.billed p ≡ true → is_of p kept ≡ true
named_of p e kept is named = sym (ap (is_of p) is) ∙ by_billed e.billed named
  where
    by_billed : (o : Option ℕ) → names o p ≡ true → is_of p (bill_with_mark (record e { billed = o })) ≡ true
    by_billed None named = absurd cc
    by_billed (Some q) named = named

module _ (scenario : Scenario) (order : Order) (h : List Entry) (r : IsScenario scenario) (legal : IsLegal scenario order h) (a b p : ℕ) (never : HasNoFreePick scenario h p a b) where
  not_free : (before later : List Entry) (e : Entry) → h ≡ before ++ e ∷ later → 0 < overlap scenario.shape.tick a b e.from e.to
      → (names e.billed p && is_free (last_kind scenario before e.cpu)) ≡ false
  not_free before later e same some =
      let runs = runs_pick scenario order h r legal a b before later e same some in
      let last = runs.last in
      let ends = window_ends scenario.shape.tick a b last.e.to runs.inside in
      let pick = never last.before (last.later ++ e ∷ later) last.e runs.split ends.0 ends.1 in
      let bills = bills_last scenario order h r legal a b before later e same ∙ last.keeps in
      by_tests (kind_of scenario last.before last.e) (wide_at scenario last.before last.e).keeps (names e.billed p) (is_free (last_kind scenario before e.cpu)) refl refl
      (λ named. named_of p e (wide_at scenario last.before last.e).keeps bills named) (ap is_free (sym last.kind)) pick
    where
      clash : true ≡ false → ⊥
      clash e = cc

      by_tests : (kind : Kind) (kept : Kept) (one two : Bool) → names e.billed p ≡ one → is_free (last_kind scenario before e.cpu) ≡ two
          → (names e.billed p ≡ true → is_of p kept ≡ true) → is_free kind ≡ is_free (last_kind scenario before e.cpu)
          → (is_free kind && is_of p kept) ≡ false → (one && two) ≡ false
      by_tests kind kept true true x y f g never =
          absurd (clash (sym (ap (λ t. t && is_of p kept) (g ∙ y) ∙ f x) ∙ never))
      by_tests kind kept true false x y f g never = refl
      by_tests kind kept false two x y f g never = refl

  none_of_it : (g es : List Entry) → h ≡ g ++ es → sum_along (free_by scenario scenario.shape.tick p a b) g es ≡ 0
  none_of_it g [] same = refl
  none_of_it g (e ∷ es) same =
      let here : free_by scenario scenario.shape.tick p a b g e ≡ 0 =
      no_time (overlap scenario.shape.tick a b e.from e.to) (names e.billed p && is_free (last_kind scenario g e.cpu)) (not_free g es e same) in
      omega (arith, here, none_of_it (g ++ e ∷ []) es (same ∙ sym (append_assoc g (e ∷ []) es)))

pub free_picks_make_free_time : (scenario : Scenario) (order : Order) (h : List Entry) → IsScenario scenario → IsLegal scenario order h → HasNoFreeTime scenario h
free_picks_make_free_time scenario order h r legal a b p never = none_of_it scenario order h r legal a b p never [] h refl

-- ---- so they keep the bound

pub sum_alike : (f g : ℕ → ℕ) → ((q : ℕ) → f q ≡ g q) → (xs : List ℕ) → sum_by f xs ≡ sum_by g xs
sum_alike f g same [] = refl
sum_alike f g same (x ∷ xs) = omega (arith, sum_by-cons f x xs, sum_by-cons g x xs, same x, sum_alike f g same xs)

-- over variables: where the window is all of the ticks, what is left of the time is the budget
line_below : (parts budget cpus window tick spent others nobody a : ℕ) → budget ≤ parts → nobody ≡ 0
    → parts * (cpus * ((a + window - a) * tick)) ≤ parts * spent + (parts - budget) * (cpus * window * tick) + parts * (others + nobody)
    → budget * (cpus * window * tick) ≤ parts * spent + parts * others
line_below parts budget cpus window tick spent others nobody a own none line =
    let k : ℕ = cpus * window * tick in
    let time : cpus * ((a + window - a) * tick) ≡ k = ap (λ n. cpus * (n * tick)) (omega arith) ∙ whole_is cpus window tick in
    let line' : parts * k ≤ parts * spent + (parts - budget) * k + parts * (others + nobody) =
    subst (λ n. parts * n ≤ parts * spent + (parts - budget) * k + parts * (others + nobody)) time line in
    let cut : (parts - budget) * k + budget * k ≡ parts * k = sym (add-mul (parts - budget) budget k) ∙ ap (λ n. n * k) (omega (arith, own)) in
    let rest : parts * (others + nobody) ≡ parts * others = ap (λ n. parts * n) (omega (arith, none)) in
    omega (arith, line', cut, rest)

pub served_window_bound : (scenario : Scenario) (order : Order) (h : List Entry) → IsScenario scenario → IsLegal scenario order h → KeepsServedBound scenario h
served_window_bound scenario order h r legal a p finished none served inside =
    let s = state_of_tick scenario h a in
    let b : ℕ = a + s.shape.window in
    let w = span_of scenario order h a b r legal none in
    let f = full scenario order h r legal a b served in
    let e = excess scenario order h r legal a b p (omega arith) (omega arith) finished none inside in
    let free_none : (q : ℕ) → free_used scenario s.shape.tick h q a b ≡ 0 = λ q. ap (λ n. free_used scenario n h q a b) w.sizes.tick ∙ f.free q in
    let idle_none : idle_time s.shape.tick h a b ≡ 0 = ap (λ n. idle_time n h a b) w.sizes.tick ∙ f.idle in
    let same : (q : ℕ) → leeway scenario s.shape s.rows h a b q ≡ slack s.shape s.rows h a q = λ q. omega (arith, free_none q) in
    let others : others_leeway scenario s.shape s.rows h a b p ≡ others_slack s.shape s.rows h a p =
    sum_alike (λ q. if nat_eq q p then 0 else leeway scenario s.shape s.rows h a b q) (λ q. if nat_eq q p then 0 else slack s.shape s.rows h a q)
    (λ q. ap (λ n. if nat_eq q p then 0 else n) (same q)) (range_with_len 0 (length s.rows)) in
    let own : (row_or_none s.rows p).budget ≤ s.shape.parts =
    subst (λ m. (row_or_none s.rows p).budget ≤ m) (budgets_sum s.rows s.shape.parts w.funded)
    (one_of_sum (length s.rows) p (λ q. (row_or_none s.rows q).budget) inside) in
    let below = line_below s.shape.parts (row_or_none s.rows p).budget s.shape.cpus s.shape.window s.shape.tick (used s.shape.tick h p a b)
    (others_leeway scenario s.shape s.rows h a b p) (idle_time s.shape.tick h a b) a own idle_none e.below in
    record {
      above = subst (λ n. s.shape.parts * used s.shape.tick h p a b ≤ (row_or_none s.rows p).budget * whole s.shape + s.shape.parts * n) (same p) e.above;
      below = subst (λ n. (row_or_none s.rows p).budget * whole s.shape ≤ s.shape.parts * used s.shape.tick h p a b + s.shape.parts * n) others below;
    }

-- ---- steady ticks are served

-- in finished ticks each entry makes a pick
pub makes_pick : (scenario : Scenario) (order : Order) (h before later : List Entry) (e : Entry) (b : ℕ) → IsScenario scenario → IsLegal scenario order h → h ≡ before ++ e ∷ later
    → b ≤ finished_ticks scenario.shape h → e.to < b * scenario.shape.tick → MadeNoPick (state_after scenario before) e (after scenario (before ++ e ∷ [])).reboot → ⊥
makes_pick scenario order h before later e b r legal same finished early no_pick =
    let front = up_to scenario order h before later e same legal in
    let last = legal_last scenario order before e front in
    let sizes = (sound scenario order r before last.0).grounded.sizes in
    let exists : e.cpu < scenario.shape.cpus = let l = last.1.turn.exists in omega (arith, l, sizes.cpus) in
    let late = finished_end scenario.shape h b e.cpu finished exists in
    elim no_pick.complete [
      | inl at_end ↦ by_last (last_to h e.cpu) refl late (at_end ∙ horizon_same scenario.shape (state_after scenario before).shape sizes)
      | inr reboot ↦ by_later later same reboot late
    ]
  where
    all : IsSound scenario (state_after scenario h) h
    all = sound scenario order r h legal

    by_last : (o : Option ℕ) → last_to h e.cpu ≡ o → b * scenario.shape.tick ≤ unwrap_or (last_to h e.cpu) 0 → e.to ≡ horizon scenario.shape → ⊥
    by_last None is late at_end =
        let zero' : unwrap_or (last_to h e.cpu) 0 ≡ 0 = ap (λ o. unwrap_or o 0) is in
        omega (arith, late, zero', early)
    by_last (Some z) is late at_end =
        let end : unwrap_or (last_to h e.cpu) 0 ≡ z = ap (λ o. unwrap_or o 0) is in
        let within = all.timely.within e.cpu z is in
        let same_end = horizon_same scenario.shape (state_after scenario h).shape all.grounded.sizes in
        omega (arith, late, end, early, at_end, within, same_end)

    by_later : (xs : List Entry) → h ≡ before ++ e ∷ xs → ((after scenario (before ++ e ∷ [])).reboot ≡ None → ⊥) → b * scenario.shape.tick ≤ last_end h e.cpu → ⊥
    by_later [] same reboot late =
        let end : last_end h e.cpu ≡ e.to = ap (λ g. last_end g e.cpu) same ∙ ap (λ o. unwrap_or o 0) (last_own before e e.cpu refl) in
        omega (arith, late, end, early)
    by_later (x ∷ xs) same reboot late =
        let g = before ++ e ∷ [] in
        let more = up_to scenario order h g xs x (same ∙ sym (append_assoc before (e ∷ []) (x ∷ xs))) legal in
        reboot (running_on (after scenario g) g (legal_last scenario order g x more).1.running).calm

-- a pick that is critical or in budget is served
funded_served : (scenario : Scenario) (h : List Entry) (e : Entry) → IsFundedPick scenario h e (state_after scenario (h ++ e ∷ [])) → IsServedPick scenario h e
funded_served scenario h e pick =
    let test = is_funded scenario (h ++ e ∷ []) in
    let t = state_after scenario (h ++ e ∷ []) in
    subst (λ (kept : Kept). IsTrue (is_served (kind_by test kept))) (sym pick.keeps)
    (by_tests (test pick.partition) pick.mark refl refl (λ unmarked. funded_there scenario h e pick.partition t (refl, refl) ∙ less_funded t pick.partition (pick.ordinary unmarked)))
  where
    by_tests : (one two : Bool) → is_funded scenario (h ++ e ∷ []) pick.partition ≡ one → pick.mark ≡ two → (pick.mark ≡ false → is_funded scenario (h ++ e ∷ []) pick.partition ≡ true)
        → IsTrue (is_served (if one then funded else if two then critical else free))
    by_tests true two x y f = refl
    by_tests false true x y f = refl
    by_tests false false x y f = absurd (clash (sym x ∙ f y))
      where
        clash : false ≡ true → ⊥
        clash e = cc

    less_funded : (t : SchedulerState) (p : ℕ) → t.shape.parts * window_used t.shape (h ++ e ∷ []) (e.to / t.shape.tick) p < (row_or_none t.rows p).budget * whole t.shape
        → (part_facts t.shape t.rows (h ++ e ∷ []) (e.to / t.shape.tick) p).funded ≡ true
    less_funded t p less =
        let test : nat_lt (t.shape.parts * window_used t.shape (h ++ e ∷ []) (e.to / t.shape.tick) p) ((row_or_none t.rows p).budget * whole t.shape) ≡ true = grind (arith, nat_tests) in
        test

-- no entry of a list in which the test finds none passes it
none_passes : (p : Entry → Bool) (before later : List Entry) (e : Entry) → list_any p (before ++ e ∷ later) ≡ false → p e ≡ false
none_passes p [] later e none = by_test (p e) refl none
  where
    by_test : (t : Bool) → p e ≡ t → (t || list_any p later) ≡ false → p e ≡ false
    by_test true is z = absurd cc
    by_test false is z = is
none_passes p (x ∷ before) later e none = none_passes p before later e (by_test (p x) none)
  where
    by_test : (t : Bool) → (t || list_any p (before ++ e ∷ later)) ≡ false → list_any p (before ++ e ∷ later) ≡ false
    by_test true k = absurd cc
    by_test false k = k

calm_at : (tick a b : ℕ) (h before later : List Entry) (e : Entry) → h ≡ before ++ e ∷ later → IsInTicks tick a b e.to → has_starved tick h a b ≡ false → e.starved ≡ None
calm_at tick a b h before later e same among none =
    let fails = none_passes (λ (e : Entry). is_some e.starved && is_among a b (e.to / tick)) before later e (subst (λ (es : List Entry). has_starved tick es a b ≡ false) same none) in
    nobody e.starved (sym (ap (λ t. is_some e.starved && t) (is_in (e.to / tick) among.from among.below)) ∙ fails)
  where
    is_in : (j : ℕ) → a ≤ j → j < b → is_among a b j ≡ true
    is_in j low high = grind (arith, nat_tests)

    nobody : (o : Option ℕ) → (is_some o && true) ≡ false → o ≡ None
    nobody None is = refl
    nobody (Some p) is = absurd cc

pub steady_is_served : (scenario : Scenario) (order : Order) (h : List Entry) → IsScenario scenario → IsLegal scenario order h → ServesSteady scenario h
steady_is_served scenario order h r legal a b finished steady before later e same low high =
    let front = up_to scenario order h before later e same legal in
    let pos : 0 < scenario.shape.tick = let l = r.shape.tick_long in omega (arith, l) in
    let parts = steady_parts scenario.shape.tick h (state_after scenario h).changes a b steady in
    let calm = calm_at scenario.shape.tick a b h before later e same (in_ticks scenario.shape.tick a b e.to pos (inside_window scenario.shape.tick a b e.to low high)) parts.1 in
    elim (steady_pick scenario order before e r front calm) [
      | inl no_pick ↦ absurd (makes_pick scenario order h before later e b r legal same finished high no_pick)
      | inr pick ↦ funded_served scenario before e pick
    ]
