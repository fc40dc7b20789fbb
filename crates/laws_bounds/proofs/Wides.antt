-- What the wide entries of a history add up to, and what their picks say.
use Rattle.std.proofs.Common.{◌≡◌, ℕ, ◌+◌, ◌*◌, ◌≤◌, Bool, true, false, if◌then◌else◌, ◌&&◌, not, List, [], ◌∷◌, ◌++◌, refl, sym, ◌∙◌, subst, append_assoc, Option, Some, None, arith}
use Rattle.std.specs.List.{sum_by}
use Rattle.std.proofs.lemmas.List.Sums.{sum_by-cons, sum_by_push}
use Rattle.aps_model.specs.declared.entry.Entry.{Entry}
use Rattle.aps_model.specs.After.{after, state_after}
use Rattle.aps_model.specs.Scenario.{Scenario}
use Rattle.aps_model.specs.SchedulerState.{SchedulerState}
use Rattle.aps_model.specs.Step.{step}
use Rattle.aps_model.specs.Usage.{overlap, billed_by, critical_by, used, critical_used, names}
use Rattle.laws_runs.specs.Window.{Kept, Wide, wide_of, wides, wides_from}
use Rattle.laws_bounds.specs.Lanes.{in_window, is_of, is_critical, paid, paid_of}
use Rattle.laws_bounds.specs.Debts.{Resets, Never}
use Rattle.laws_bounds.specs.Picks.{wide_at}
use Rattle.laws_bounds.proofs.Prefixes.{state-append}

-- what the entry bills of the partition's ordinary runs
abbrev pub ordinary_by : ℕ → ℕ → ℕ → ℕ → Entry → ℕ
ordinary_by tick p a b e = if names e.billed p && not e.critical then overlap tick a b e.from e.to else 0

-- ---- sums

pub sum_wides : (f : Wide → ℕ) (g : Entry → ℕ) → ((e : Entry) (t : SchedulerState) → f (wide_of e t) ≡ g e) → (scenario : Scenario) (s : SchedulerState) (h es : List Entry)
    → sum_by f (wides_from scenario s h es) ≡ sum_by g es
sum_wides f g same scenario s h [] = refl
sum_wides f g same scenario s h (e ∷ es) =
    let t = (step scenario s h e.cpu).state in
    omega (arith, sum_by-cons f (wide_of e t) (wides_from scenario t (h ++ e ∷ []) es), sum_by-cons g e es, same e t, sum_wides f g same scenario t (h ++ e ∷ []) es)

paid_is : (tick a b p : ℕ) (e : Entry) (t : SchedulerState) → paid (is_of p) tick a b (wide_of e t) ≡ billed_by tick p a b e
paid_is tick a b p e t = by_billed e.billed
  where
    by_billed : (o : Option ℕ) → paid (is_of p) tick a b (wide_of (record e { billed = o }) t) ≡ billed_by tick p a b (record e { billed = o })
    by_billed None = refl
    by_billed (Some q) = refl

pub critical_is : (tick a b p : ℕ) (e : Entry) (t : SchedulerState) → paid (is_critical p) tick a b (wide_of e t) ≡ critical_by tick p a b e
critical_is tick a b p e t = by_billed e.billed
  where
    by_billed : (o : Option ℕ) → paid (is_critical p) tick a b (wide_of (record e { billed = o }) t) ≡ critical_by tick p a b (record e { billed = o })
    by_billed None = refl
    by_billed (Some q) = refl

-- the sums over entries are those over wide entries
pub used_is : (scenario : Scenario) (tick a b p : ℕ) (h : List Entry) → paid_of tick a b (wides scenario h) p ≡ used tick h p a b
used_is scenario tick a b p h = sum_wides (paid (is_of p) tick a b) (billed_by tick p a b) (paid_is tick a b p) scenario _ [] h

pub critical_used_is : (scenario : Scenario) (tick a b p : ℕ) (h : List Entry) → sum_by (paid (is_critical p) tick a b) (wides scenario h) ≡ critical_used tick h p a b
critical_used_is scenario tick a b p h = sum_wides (paid (is_critical p) tick a b) (critical_by tick p a b) (critical_is tick a b p) scenario _ [] h

-- ordinary time is part of what is used
pub ordinary_below : (tick p a b : ℕ) (h : List Entry) → sum_by (ordinary_by tick p a b) h ≤ used tick h p a b
ordinary_below tick p a b [] = omega arith
ordinary_below tick p a b (e ∷ es) =
    omega (arith, sum_by-cons (ordinary_by tick p a b) e es, sum_by-cons (billed_by tick p a b) e es, ordinary_below tick p a b es, by_tests (names e.billed p) (not e.critical) (overlap tick a b e.from e.to))
  where
    by_tests : (one two : Bool) (k : ℕ) → (if one && two then k else 0) ≤ (if one then k else 0)
    by_tests true true k = omega arith
    by_tests true false k = omega arith
    by_tests false two k = omega arith

-- ---- picks

abbrev PicksWithin : Scenario → (Kept → Bool) → (Entry → ℕ) → ℕ → ℕ → ℕ → ℕ → ℕ → List Entry → Type 0
PicksWithin scenario counts f tick a b scale limit h =
    (before later : List Entry) (e : Entry) → h ≡ before ++ e ∷ later → counts (wide_at scenario before e).keeps ≡ true → in_window tick a b e.to ≡ true
    → scale * sum_by f (before ++ e ∷ []) ≤ limit

resets_from : (scenario : Scenario) (counts : Kept → Bool) (f : Entry → ℕ) (tick a b scale limit : ℕ) (all h es : List Entry) → all ≡ h ++ es
    → ((e : Entry) (t : SchedulerState) → paid counts tick a b (wide_of e t) ≡ f e)
    → PicksWithin scenario counts f tick a b scale limit all
    → Resets counts tick a b scale limit (sum_by f h) (wides_from scenario (state_after scenario h) h es)
resets_from scenario counts f tick a b scale limit all h [] is same within = tt
resets_from scenario counts f tick a b scale limit all h (e ∷ es) is same within =
    let t = state_after scenario (h ++ e ∷ []) in
    let n : sum_by f h + paid counts tick a b (wide_of e t) ≡ sum_by f (h ++ e ∷ []) = omega (arith, sum_by_push f h e, same e t) in
    let rest = resets_from scenario counts f tick a b scale limit all (h ++ e ∷ []) es (is ∙ sym (append_assoc h (e ∷ []) es)) same within in
    subst (λ (u : SchedulerState). Resets counts tick a b scale limit (sum_by f h) (wide_of e u ∷ wides_from scenario u (h ++ e ∷ []) es)) (state-append scenario h e) (
      λ counted inside. subst (λ k. scale * k ≤ limit) (sym n) (within h es e is counted inside),
      subst (λ k. Resets counts tick a b scale limit k (wides_from scenario t (h ++ e ∷ []) es)) (sym n) rest,
    )

-- where each pick that counts is within the limit, so are the wide entries
pub resets_of : (scenario : Scenario) (counts : Kept → Bool) (f : Entry → ℕ) (tick a b scale limit : ℕ) (h : List Entry)
    → ((e : Entry) (t : SchedulerState) → paid counts tick a b (wide_of e t) ≡ f e)
    → PicksWithin scenario counts f tick a b scale limit h
    → Resets counts tick a b scale limit 0 (wides scenario h)
unfolding after
resets_of scenario counts f tick a b scale limit h same within = resets_from scenario counts f tick a b scale limit h [] h refl same within

never_from : (scenario : Scenario) (counts : Kept → Bool) (tick a b : ℕ) (all h es : List Entry) → all ≡ h ++ es
    → ((before later : List Entry) (e : Entry) → all ≡ before ++ e ∷ later → counts (wide_at scenario before e).keeps ≡ true → in_window tick a b e.to ≡ false)
    → Never counts tick a b (wides_from scenario (state_after scenario h) h es)
never_from scenario counts tick a b all h [] is never = tt
never_from scenario counts tick a b all h (e ∷ es) is never =
    let t = state_after scenario (h ++ e ∷ []) in
    subst (λ (u : SchedulerState). Never counts tick a b (wide_of e u ∷ wides_from scenario u (h ++ e ∷ []) es)) (state-append scenario h e)
    (never h es e is, never_from scenario counts tick a b all (h ++ e ∷ []) es (is ∙ sym (append_assoc h (e ∷ []) es)) never)

-- where no pick counts, none of the wide entries does
pub never_of : (scenario : Scenario) (counts : Kept → Bool) (tick a b : ℕ) (h : List Entry)
    → ((before later : List Entry) (e : Entry) → h ≡ before ++ e ∷ later → counts (wide_at scenario before e).keeps ≡ true → in_window tick a b e.to ≡ false)
    → Never counts tick a b (wides scenario h)
unfolding after
never_of scenario counts tick a b h never = never_from scenario counts tick a b h [] h refl never
