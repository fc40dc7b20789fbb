-- The run in fixed order, and how a legal history is finished by steps in fixed order.
use Rattle.std.proofs.Common.{◌≡◌, ℕ, zero, suc, ◌+◌, ◌-◌, ◌<◌, ◌≤◌, List, [], ◌∷◌, ◌++◌, length, take, drop, refl, sym, ◌∙◌, ap, subst, append_assoc, cond, Option, Some, None, is_some, IsSome, arith, inl, inr, ◌⊎◌, length-append, take-append-drop}
use Rattle.std.proofs.lemmas.Bool.{cases_eq, cases_lt}
use Rattle.std.proofs.lemmas.List.{append-nil, length-drop}
use Rattle.aps_model.specs.declared.entry.Entry.{Entry}
use Rattle.aps_model.specs.declared.entry.End.{End}
use Rattle.aps_model.specs.declared.entry.End.TheVariants.{Limit}
use Rattle.aps_model.specs.declared.entry.Order.{Order}
use Rattle.aps_model.specs.declared.entry.Order.TheVariants.{Fixed}
use Rattle.laws_runs.specs.Runs.{with_fixed_step, GoesOn, IsEndedRun, EndsNoSooner, Extends, finished}
use Rattle.laws_runs.proofs.WaitFacts.{test_ne, test_eq}
use Rattle.laws_runs.proofs.Turns.{one_turn, any_turn}
use Rattle.laws_runs.proofs.Prefixes.{legal_more, goes_on}
use Rattle.laws_runs.proofs.Sound.{sound, sound_step_of}
use Rattle.laws_runs.proofs.Words.{prefix_legal}
use Rattle.aps_model.specs.After.{After, after, at_start, end_of, left_by, or_limit, over, state_after}
use Rattle.aps_model.specs.Due.{HasTurn, first_due}
use Rattle.aps_model.specs.Legal.{IsLegal, fixed_run, fixed_steps}
use Rattle.aps_model.specs.Scenario.{Scenario}
use Rattle.aps_model.specs.Step.{Step, step}
use Rattle.aps_model.specs.Valid.{IsScenario}
use Rattle.aps_model.proofs.AfterLaws.{after-append, after_none, legal_none}

-- ---- ends

abbrev IsOver : Option End → Type 0
IsOver o = (o ≡ None → ⊥)

over_or_not : (o : Option End) → (o ≡ None) ⊎ IsOver o
over_or_not None = inl refl
over_or_not (Some end) = inr (λ e. cc)

-- before the limit a history has ended exactly where it is over
runs_on : (scenario : Scenario) (limit : ℕ) (h : List Entry) → over (after scenario h) h ≡ None → length h < limit → end_of scenario limit h ≡ None
runs_on scenario limit h run short =
    ap (λ o. or_limit o limit (length h)) run ∙ ap (λ t. cond t (Some Limit) None) (test_ne (length h) limit (λ e. absurd (omega (arith, e, short))))

ended_over : (scenario : Scenario) (limit : ℕ) (h : List Entry) → IsOver (over (after scenario h) h) → IsSome (end_of scenario limit h)
ended_over scenario limit h stop = by_over (over (after scenario h) h) stop
  where
    by_over : (o : Option End) → IsOver o → IsSome (or_limit o limit (length h))
    by_over None stop = absurd (stop refl)
    by_over (Some end) stop = refl

ended_limit : (scenario : Scenario) (limit : ℕ) (h : List Entry) → length h ≡ limit → IsSome (end_of scenario limit h)
ended_limit scenario limit h full = by_over (over (after scenario h) h)
  where
    by_over : (o : Option End) → IsSome (or_limit o limit (length h))
    by_over None = ap (λ t. is_some (cond t (Some Limit) None)) (test_eq (length h) limit full)
    by_over (Some end) = refl

none_or_some : (o : Option End) → o ≡ None → IsSome o → ⊥
none_or_some None e some = cc
none_or_some (Some end) e some = cc

-- a history that hasn't ended isn't over and doesn't reach the limit
not_over : (scenario : Scenario) (limit : ℕ) (h : List Entry) → end_of scenario limit h ≡ None → over (after scenario h) h ≡ None
not_over scenario limit h e = elim (over_or_not (over (after scenario h) h)) [
  | inl run ↦ run
  | inr stop ↦ absurd (none_or_some (end_of scenario limit h) e (ended_over scenario limit h stop))
]

below_limit : (scenario : Scenario) (limit : ℕ) (h : List Entry) → end_of scenario limit h ≡ None → length h ≡ limit → ⊥
below_limit scenario limit h e full = none_or_some (end_of scenario limit h) e (ended_limit scenario limit h full)

-- ---- prefixes

cons_same : (x y : Entry) (xs ys : List Entry) → x ∷ xs ≡ y ∷ ys → (x ≡ y) × (xs ≡ ys)
cons_same x y xs ys e = (cc, cc)

-- what comes before an entry of a longer list
before_last : (before later h : List Entry) (x e : Entry) → h ++ e ∷ [] ≡ before ++ x ∷ later → (h ≡ before) ⊎ ((rest : List Entry) × (h ≡ before ++ x ∷ rest))
before_last [] later [] x e same = inl refl
before_last [] later (y ∷ h) x e same = inr (h, ap (λ z. z ∷ h) (cons_same y x _ later same).0)
before_last (b ∷ before) later [] x e same = absurd (nothing before (cons_same e b [] _ same).1)
  where
    nothing : (bs : List Entry) → [] ≡ bs ++ x ∷ later → ⊥
    nothing [] k = cc
    nothing (b ∷ bs) k = cc
before_last (b ∷ before) later (y ∷ h) x e same =
    let parts = cons_same y b _ _ same in
    elim (before_last before later h x e parts.1) [
      | inl k ↦ inl (ap (λ z. z ∷ h) parts.0 ∙ ap (λ zs. b ∷ zs) k)
      | inr k ↦ inr (k.0, ap (λ z. z ∷ h) parts.0 ∙ ap (λ zs. b ∷ zs) k.1)
    ]

late_more : (scenario : Scenario) (limit : ℕ) (h : List Entry) (e : Entry) → EndsNoSooner scenario limit h → end_of scenario limit h ≡ None → EndsNoSooner scenario limit (h ++ e ∷ [])
late_more scenario limit h e late none = λ before later x same.
    elim (before_last before later h x e same) [
      | inl is ↦ subst (λ g. end_of scenario limit g ≡ None) is none
      | inr shorter ↦ late before shorter.0 x shorter.1
    ]

-- such a history is no longer than the limit
late_short : (scenario : Scenario) (limit : ℕ) (h : List Entry) → EndsNoSooner scenario limit h → length h ≤ limit
late_short scenario limit h late = elim (cases_lt limit (length h)) [
  | inr fits ↦ fits
  | inl long ↦ absurd (by_rest (drop limit h) refl long)
]
  where
    by_rest : (rest : List Entry) → drop limit h ≡ rest → limit < length h → ⊥
    by_rest [] is long = omega (arith, length-drop limit h, ap (λ (l : List Entry). length l) is, long)
    by_rest (e ∷ later) is long =
        let split : h ≡ take limit h ++ e ∷ later = sym (take-append-drop limit h) ∙ ap (λ l. take limit h ++ l) is in
        let both : length h ≡ length (take limit h) + length (drop limit h) = ap (λ (l : List Entry). length l) (sym (take-append-drop limit h)) ∙ length-append (take limit h) (drop limit h) in
        let full : length (take limit h) ≡ limit = omega (arith, both, length-drop limit h, long) in
        below_limit scenario limit (take limit h) (late (take limit h) later e split) full

-- ---- steps in fixed order

abbrev next_in : Scenario → After → List Entry → Step
next_in scenario a h = step scenario a.state h (first_due a.state h a.state.shape.cpus)

steps_stop : (scenario : Scenario) (n : ℕ) (a : After) (h : List Entry) → IsOver (over a h) → fixed_steps scenario n a h ≡ h
steps_stop scenario zero a h stop = refl
steps_stop scenario (suc n) a h stop = by_over (over a h) stop
  where
    by_over : (o : Option End) → IsOver o → elim o [
      | Some end ↦ h
      | None ↦
          let next = step scenario a.state h (first_due a.state h a.state.shape.cpus) in
          fixed_steps scenario n (left_by next) (h ++ next.entry ∷ [])
    ] ≡ h
    by_over None stop = absurd (stop refl)
    by_over (Some end) stop = refl

steps_go_on : (scenario : Scenario) (n : ℕ) (a : After) (h : List Entry) → over a h ≡ None → fixed_steps scenario (suc n) a h ≡ fixed_steps scenario n (left_by (next_in scenario a h)) (h ++ (next_in scenario a h).entry ∷ [])
steps_go_on scenario n a h run = by_over (over a h) run
  where
    by_over : (o : Option End) → o ≡ None → elim o [
      | Some end ↦ h
      | None ↦
          let next = step scenario a.state h (first_due a.state h a.state.shape.cpus) in
          fixed_steps scenario n (left_by next) (h ++ next.entry ∷ [])
    ] ≡ fixed_steps scenario n (left_by (next_in scenario a h)) (h ++ (next_in scenario a h).entry ∷ [])
    by_over None run = refl
    by_over (Some end) run = absurd cc

-- after a legal history that isn't over one processor has the turn in fixed order, and the step is its own
record IsFixedNext (scenario : Scenario) (h : List Entry) (e : Entry) : Type 0 where
  turn : HasTurn Fixed (state_after scenario h) h e.cpu
  same : e ≡ (step scenario (state_after scenario h) h e.cpu).entry
  leaves : after scenario (h ++ e ∷ []) ≡ left_by (next_in scenario (after scenario h) h)

some_cpu : (scenario : Scenario) (order : Order) (h : List Entry) → IsScenario scenario → IsLegal scenario order h → 1 ≤ (state_after scenario h).shape.cpus
some_cpu scenario order h r legal = subst (λ n. 1 ≤ n) (sym (sound scenario order r h legal).grounded.sizes.cpus) r.shape.some_cpu

fixed_next : (scenario : Scenario) (order : Order) (h : List Entry) → IsScenario scenario → IsLegal scenario order h → IsFixedNext scenario h (next_in scenario (after scenario h) h).entry
fixed_next scenario order h r legal =
    let s = state_after scenario h in
    let f = first_due s h s.shape.cpus in
    let turn = (one_turn s h (some_cpu scenario order h r legal)).has in
    let cpu : (step scenario s h f).entry.cpu ≡ f = (sound_step_of scenario Fixed s h f r (sound scenario order r h legal) turn).cpu in
    record {
      turn = subst (HasTurn Fixed s h) (sym cpu) turn;
      same = ap (λ c. (step scenario s h c).entry) (sym cpu);
      leaves = after-append scenario h (step scenario s h f).entry ∙ ap (λ c. left_by (step scenario s h c)) cpu;
    }

-- steps in fixed order lead to the end
steps_end : (scenario : Scenario) (order : Order) (limit n : ℕ) (a : After) (h : List Entry) → IsScenario scenario → a ≡ after scenario h → n + length h ≡ limit → IsLegal scenario order h → EndsNoSooner scenario limit h
    → IsEndedRun scenario order limit (fixed_steps scenario n a h)
steps_end scenario order limit zero a h r is count legal late = record { legal = legal; ended = ended_limit scenario limit h (omega (arith, count)); no_sooner = late }
steps_end scenario order limit (suc n) a h r is count legal late = elim (over_or_not (over a h)) [
  | inr stop ↦
      subst (IsEndedRun scenario order limit) (sym (steps_stop scenario (suc n) a h stop))
      (record { legal = legal; ended = ended_over scenario limit h (λ e. stop (ap (λ b. over b h) is ∙ e)); no_sooner = late })
  | inl run ↦
      let run' : over (after scenario h) h ≡ None = ap (λ b. over b h) (sym is) ∙ run in
      let e = (next_in scenario (after scenario h) h).entry in
      let next = fixed_next scenario order h r legal in
      let go : GoesOn scenario order h e = record { running = run'; turn = any_turn order (state_after scenario h) h e.cpu next.turn; same = next.same } in
      let longer : n + length (h ++ e ∷ []) ≡ limit = omega (arith, length-append h (e ∷ []), count) in
      let late' = late_more scenario limit h e late (runs_on scenario limit h run' (omega (arith, count))) in
      let rest = steps_end scenario order limit n (after scenario (h ++ e ∷ [])) (h ++ e ∷ []) r refl longer (legal_more scenario order h e legal go) late' in
      subst (IsEndedRun scenario order limit)
      (ap (λ b. fixed_steps scenario n b (h ++ e ∷ [])) next.leaves
      ∙ ap (λ b. fixed_steps scenario n (left_by (next_in scenario b h)) (h ++ (next_in scenario b h).entry ∷ [])) (sym is)
      ∙ sym (steps_go_on scenario n a h run)) rest
]

pub finish_ends : (scenario : Scenario) (order : Order) (limit : ℕ) (h : List Entry) → IsScenario scenario → IsLegal scenario order h → EndsNoSooner scenario limit h → IsEndedRun scenario order limit (finished scenario limit h)
finish_ends scenario order limit h r legal late =
    steps_end scenario order limit (limit - length h) (after scenario h) h r refl (omega (arith, late_short scenario limit h late)) legal late

pub nothing_before : (before later : List Entry) (e : Entry) → [] ≡ before ++ e ∷ later → ⊥
nothing_before [] later e same = cc
nothing_before (b ∷ before) later e same = cc

pub run_ends : (scenario : Scenario) (limit : ℕ) → IsScenario scenario → IsEndedRun scenario Fixed limit (fixed_run scenario limit)
run_ends scenario limit r =
    steps_end scenario Fixed limit limit (at_start scenario) [] r (sym (after_none scenario)) (omega arith) (legal_none scenario Fixed) (λ before later e same. absurd (nothing_before before later e same))

-- ---- the only one

record IsPart (scenario : Scenario) (limit n : ℕ) (a : After) (g es h : List Entry) : Type 0 where
  is : a ≡ after scenario g
  count : n + length g ≡ limit
  split : h ≡ g ++ es

steps_same : (scenario : Scenario) (limit n : ℕ) (a : After) (g es h : List Entry) → IsScenario scenario → IsEndedRun scenario Fixed limit h → IsPart scenario limit n a g es h → fixed_steps scenario n a g ≡ h
steps_same scenario limit n a g [] h r m p = by_fuel n p.count ∙ sym whole
  where
    whole : h ≡ g
    whole = p.split ∙ append-nil g

    by_fuel : (n : ℕ) → n + length g ≡ limit → fixed_steps scenario n a g ≡ g
    by_fuel zero count = refl
    by_fuel (suc n) count = steps_stop scenario (suc n) a g (λ run.
        none_or_some (end_of scenario limit g) (runs_on scenario limit g (ap (λ b. over b g) (sym p.is) ∙ run) (omega (arith, count)))
        (subst (λ k. IsSome (end_of scenario limit k)) whole m.ended))
steps_same scenario limit zero a g (e ∷ es) h r m p = absurd (below_limit scenario limit g (m.no_sooner g es e p.split) (omega (arith, p.count)))
steps_same scenario limit (suc n) a g (e ∷ es) h r m p =
    let here : IsLegal scenario Fixed (g ++ e ∷ es) = subst (IsLegal scenario Fixed) p.split m.legal in
    let go = goes_on scenario Fixed g es e here in
    let s = state_after scenario g in
    let f = first_due s g s.shape.cpus in
    let first : e.cpu ≡ f = (one_turn s g (some_cpu scenario Fixed g r (prefix_legal scenario Fixed g (e ∷ es) here))).only e.cpu go.turn in
    let entry : (next_in scenario (after scenario g) g).entry ≡ e = ap (λ c. (step scenario s g c).entry) (sym first) ∙ sym go.same in
    let left : left_by (next_in scenario (after scenario g) g) ≡ after scenario (g ++ e ∷ []) = ap (λ c. left_by (step scenario s g c)) (sym first) ∙ sym (after-append scenario g e) in
    let rest = steps_same scenario limit n (after scenario (g ++ e ∷ [])) (g ++ e ∷ []) es h r m (record {
      is = refl;
      count = omega (arith, length-append g (e ∷ []), p.count);
      split = p.split ∙ sym (append_assoc g (e ∷ []) es);
    }) in
    steps_go_on scenario n a g (ap (λ b. over b g) p.is ∙ go.running)
    ∙ ap (λ b. fixed_steps scenario n (left_by (next_in scenario b g)) (g ++ (next_in scenario b g).entry ∷ [])) p.is
    ∙ ap (λ b. fixed_steps scenario n b (g ++ (next_in scenario (after scenario g) g).entry ∷ [])) left
    ∙ ap (λ (x : Entry). fixed_steps scenario n (after scenario (g ++ e ∷ [])) (g ++ x ∷ [])) entry
    ∙ rest

pub run_is_one : (scenario : Scenario) (limit : ℕ) (h : List Entry) → IsScenario scenario → IsEndedRun scenario Fixed limit h → h ≡ fixed_run scenario limit
run_is_one scenario limit h r m =
    sym (steps_same scenario limit limit (at_start scenario) [] h h r m (record { is = sym (after_none scenario); count = omega arith; split = refl }))

pub finish_is_run : (scenario : Scenario) (limit : ℕ) (h : List Entry) → IsScenario scenario → IsLegal scenario Fixed h → EndsNoSooner scenario limit h → finished scenario limit h ≡ fixed_run scenario limit
finish_is_run scenario limit h r legal late = run_is_one scenario limit (finished scenario limit h) r (finish_ends scenario Fixed limit h r legal late)

-- ---- the beginning stays

steps_extend : (scenario : Scenario) (n : ℕ) (a : After) (h : List Entry) → Extends h (fixed_steps scenario n a h)
steps_extend scenario zero a h = ([], sym (append-nil h))
steps_extend scenario (suc n) a h = elim (over_or_not (over a h)) [
  | inr stop ↦ ([], steps_stop scenario (suc n) a h stop ∙ sym (append-nil h))
  | inl run ↦
      let e = (next_in scenario a h).entry in
      let rest = steps_extend scenario n (left_by (next_in scenario a h)) (h ++ e ∷ []) in
      (e ∷ rest.0, steps_go_on scenario n a h run ∙ rest.1 ∙ append_assoc h (e ∷ []) rest.0)
]

pub finish_extends : (scenario : Scenario) (limit : ℕ) (h : List Entry) → Extends h (finished scenario limit h)
finish_extends scenario limit h = steps_extend scenario (limit - length h) (after scenario h) h

-- ---- one step at a time

pub finish_stops : (scenario : Scenario) (limit : ℕ) (h : List Entry) → IsSome (end_of scenario limit h) → finished scenario limit h ≡ h
finish_stops scenario limit h ended = elim (over_or_not (over (after scenario h) h)) [
  | inr stop ↦ steps_stop scenario (limit - length h) (after scenario h) h stop
  | inl run ↦ elim (cases_eq (length h) limit) [
    | inl full ↦
        let no_fuel : limit - length h ≡ 0 = omega (arith, full) in
        ap (λ n. fixed_steps scenario n (after scenario h) h) no_fuel
    | inr ne ↦ absurd (none_or_some (end_of scenario limit h) (ap (λ o. or_limit o limit (length h)) run ∙ ap (λ t. cond t (Some Limit) None) (test_ne (length h) limit ne)) ended)
  ]
]

pub finish_steps : (scenario : Scenario) (order : Order) (limit : ℕ) (h : List Entry) → IsScenario scenario → IsLegal scenario order h → length h < limit → end_of scenario limit h ≡ None
    → finished scenario limit h ≡ finished scenario limit (with_fixed_step scenario h)
finish_steps scenario order limit h r legal short none =
    let e = (next_in scenario (after scenario h) h).entry in
    let run = not_over scenario limit h none in
    let fuel : limit - length h ≡ suc (limit - length (h ++ e ∷ [])) = omega (arith, length-append h (e ∷ []), short) in
    ap (λ n. fixed_steps scenario n (after scenario h) h) fuel
    ∙ steps_go_on scenario (limit - length (h ++ e ∷ [])) (after scenario h) h run
    ∙ ap (λ a. fixed_steps scenario (limit - length (h ++ e ∷ [])) a (h ++ e ∷ [])) (sym (fixed_next scenario order h r legal).leaves)
