-- Who had a candidate at a pick had work at it.
use Rattle.std.proofs.Common.{◌≡◌, ℕ, ◌<◌, List, [], ◌∷◌, length, map, refl, sym, ◌∙◌, ap, subst, Bool, true, false, cond, ◌||◌, nat_eq, Option, Some, None, inl, inr}
use Rattle.std.specs.List.{filter, list_any, range_with_len}
use Rattle.std.proofs.lemmas.Bool.{cases_eq, eqb-true, or_cases}
use Rattle.aps_model.specs.declared.entry.Entry.{Entry}
use Rattle.aps_model.specs.declared.merit.Contender.{Contender}
use Rattle.aps_model.specs.declared.merit.PartFacts.{PartFacts}
use Rattle.aps_model.specs.declared.state.CpuNow.{CpuNow}
use Rattle.aps_model.specs.declared.state.Facts.{Facts}
use Rattle.aps_model.specs.declared.state.State.{State}
use Rattle.aps_model.specs.declared.state.State.TheVariants.{Gone, Ready, Running}
use Rattle.aps_model.specs.declared.state.ThreadNow.{ThreadNow}
use Rattle.aps_model.specs.Budget.{part_at}
use Rattle.aps_model.specs.Flag.{with_flag}
use Rattle.aps_model.specs.Inherit.{facts_of}
use Rattle.aps_model.specs.Merit.{is_candidate}
use Rattle.aps_model.specs.Pick.{contender_of, contenders, greatest, is_ready}
use Rattle.aps_model.specs.Scenario.{Scenario}
use Rattle.aps_model.specs.SchedulerState.{SchedulerState, cpu_at, thread_at}
use Rattle.aps_model.specs.Step.{chosen}
use Rattle.laws_runs.specs.Waits.{state_at}
use Rattle.laws_runs.proofs.Picked.{cpu_same, flag_running, greatest_ready}
use Rattle.laws_runs.proofs.PickSays.{facts_picked}
use Rattle.laws_runs.proofs.ThreadFacts.{set_other, set_same, within}
use Rattle.laws_load.specs.Work.{HasWork, chosen_from}
use Rattle.laws_load.proofs.Greatest.{ready_from}
use Rattle.laws_load.proofs.OpenPick.{IsOpenPick}
use Rattle.aps_core.specs.Scan.{has_candidate}
use Rattle.view_samples.specs.Picks.{bills}

clash : false ≡ true → ⊥
clash same = cc

-- ---- among contenders

-- a number of which it is so
abbrev Found : (ℕ → Bool) → (ℕ → Bool) → Type 0
Found ready test = (x : ℕ) × (ready x ≡ true) × (test x ≡ true)

by_test : {X : Type 0} (f : ℕ → X) (p t : X → Bool) (x : ℕ) (rest b : Bool) → p (f x) ≡ true → (rest ≡ true → Found (λ x. p (f x)) (λ x. t (f x))) → t (f x) ≡ b → (b || rest) ≡ true
    → Found (λ x. p (f x)) (λ x. t (f x))
by_test f p t x rest true first later is any = (x, first, is)
by_test f p t x rest false first later is any = later any

by_second : {X : Type 0} (f : ℕ → X) (p t : X → Bool) (x : ℕ) (xs : List X) (b : Bool) → p (f x) ≡ true → (list_any t xs ≡ true → Found (λ x. p (f x)) (λ x. t (f x)))
    → list_any t (cond b (f x ∷ xs) xs) ≡ true → Found (λ x. p (f x)) (λ x. t (f x))
by_second f p t x xs true first later any = by_test f p t x (list_any t xs) (t (f x)) first later refl any
by_second f p t x xs false first later any = later any

by_first : {X : Type 0} (f : ℕ → X) (p q t : X → Bool) (x : ℕ) (xs : List X) (b : Bool) → p (f x) ≡ b → (list_any t (filter q xs) ≡ true → Found (λ x. p (f x)) (λ x. t (f x)))
    → list_any t (filter q (cond b (f x ∷ xs) xs)) ≡ true → Found (λ x. p (f x)) (λ x. t (f x))
by_first f p q t x xs true first later any = by_second f p t x (filter q xs) (q (f x)) first later any
by_first f p q t x xs false first later any = later any

-- of those that pass two tests one passes a third
any_passing : {X : Type 0} (f : ℕ → X) (p q t : X → Bool) (xs : List ℕ) → list_any t (filter q (filter p (map f xs))) ≡ true → Found (λ x. p (f x)) (λ x. t (f x))
any_passing f p q t [] any = absurd (clash any)
any_passing f p q t (x ∷ xs) any = by_first f p q t x (filter p (map f xs)) (p (f x)) refl (any_passing f p q t xs) any

-- a ready thread that is scheduled by the partition
abbrev pub Works : SchedulerState → ℕ → Type 0
Works s p = (x : ℕ) × (state_at s x ≡ Ready) × ((facts_of s x).partition ≡ p)

has_works : (s : SchedulerState) (ps : List PartFacts) (p : ℕ) → has_candidate ps p (contenders s) ≡ true → Works s p
has_works s ps p has =
    let found = any_passing (contender_of s) (λ (c : Contender). is_ready (thread_at s c.thread).state) (λ (c : Contender). is_candidate c.facts (part_at ps c.facts.partition))
    (λ (c : Contender). nat_eq c.facts.partition p) (range_with_len 0 (length s.threads)) has in
    (found.0, ready_from (state_at s found.0) found.1, eqb-true (facts_of s found.0).partition p found.2)

-- ---- before the pick

clash_gone : ◌≡◌ {A = State} Ready Gone → ⊥
clash_gone e = cc

clash_runs : (c : ℕ) → ◌≡◌ {A = State} Ready (Running c) → ⊥
clash_runs c e = cc

module _ (r : SchedulerState) (ps : List PartFacts) (c : ℕ) where
  -- who is ready after the pick was so before
  ready_before : (o : Option Contender) → greatest r.shape.free ps (contenders r) ≡ o → (x : ℕ) → state_at (chosen r ps c o) x ≡ Ready → state_at r x ≡ Ready
  ready_before None is x ready = ready
  ready_before (Some b) is x ready =
      let new = record (thread_at r b.thread) { state = Running c } in
      let found = greatest_ready r r.shape.free ps b is in
      let inside = within r.threads b.thread (λ g. clash_gone (sym found.ready ∙ g)) in
      elim (cases_eq x b.thread) [
        | inl same ↦ absurd (clash_runs c (sym ready ∙ ap (state_at (chosen r ps c (Some b))) same ∙ ap (λ (t : ThreadNow). t.state) (set_same r.threads b.thread new inside)))
        | inr ne ↦ sym (ap (λ (t : ThreadNow). t.state) (set_other r.threads b.thread x new ne)) ∙ ready
      ]

  left_works : (o : Option Contender) → greatest r.shape.free ps (contenders r) ≡ o → (p : ℕ) → Works (chosen r ps c o) p → Works r p
  left_works o is p works = (works.0, ready_before o is works.0 works.1, sym (ap (λ (f : Facts). f.partition) (facts_picked r ps c o works.0)) ∙ works.2)

  -- who was picked was ready
  picked_works : c < length r.cpus → (o : Option Contender) → greatest r.shape.free ps (contenders r) ≡ o → (p : ℕ) → bills (cpu_at (chosen r ps c o) c).running p ≡ true → Works r p
  picked_works below None is p billed =
      absurd (clash (sym (ap (λ (z : CpuNow). bills z.running p) (cpu_same r.cpus c _ below)) ∙ billed))
  picked_works below (Some b) is p billed =
      let found = greatest_ready r r.shape.free ps b is in
      let same : nat_eq b.facts.partition p ≡ true = sym (ap (λ (z : CpuNow). bills z.running p) (cpu_same r.cpus c _ below)) ∙ billed in
      (b.thread, found.ready, sym (ap (λ (k : Contender). k.facts.partition) found.same) ∙ eqb-true b.facts.partition p same)

facts_flagged : (s : SchedulerState) (now : ℕ) (o : Option ℕ) (x : ℕ) → facts_of (with_flag s now o) x ≡ facts_of s x
facts_flagged s now None x = refl
facts_flagged s now (Some d) x = refl

flagged_works : (s : SchedulerState) (now : ℕ) (o : Option ℕ) (p : ℕ) → Works (with_flag s now o) p → Works s p
flagged_works s now None p works = works
flagged_works s now (Some d) p works = works

-- ---- at the pick

pub had_work : (scenario : Scenario) (h : List Entry) (e : Entry) (t : SchedulerState) (ps : List PartFacts) (p : ℕ) → IsOpenPick (chosen_from scenario h e) h e.cpu e t
    → (bills (cpu_at t e.cpu).running p || has_candidate ps p (contenders t)) ≡ true → HasWork scenario h e p
had_work scenario h e t ps p pick had =
    let r = chosen_from scenario h e in
    let best = greatest r.shape.free pick.parts (contenders r) in
    let q = chosen r pick.parts e.cpu best in
    let works : Works r p = elim (or_cases (bills (cpu_at t e.cpu).running p) (has_candidate ps p (contenders t)) had) [
      | inl billed ↦
          picked_works r pick.parts e.cpu pick.below best refl p
          (sym (ap (λ (z : SchedulerState). bills (cpu_at z e.cpu).running p) pick.leaves ∙ ap (λ o. bills o p) (flag_running q e.to _ e.cpu)) ∙ billed)
      | inr has ↦ left_works r pick.parts e.cpu best refl p (flagged_works q e.to _ p (subst (λ (z : SchedulerState). Works z p) pick.leaves (has_works t ps p has)))
    ] in
    record { thread = works.0; ready = works.1; partition = works.2 }
