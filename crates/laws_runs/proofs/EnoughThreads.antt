-- With enough threads nobody is starved.
use Rattle.std.proofs.Common.{◌≡◌, ◌≢◌, ℕ, zero, suc, ◌+◌, ◌*◌, ◌/◌, ◌<◌, ◌≤◌, List, [], ◌∷◌, ◌++◌, map, length, refl, sym, ◌∙◌, ap, subst, Bool, true, false, cond, not, ◌&&◌, ◌||◌, nat_eq, nat_lt, nat_le, Option, Some, None, arith, inl, inr, ◌⊎◌, length-set}
use Rattle.std.specs.List.{filter, find, list_any, range_with_len, sum_by}
use Rattle.std.proofs.lemmas.Bool.{cases_eq, cases_lt, eqb-true, ltb-true}
use Rattle.std.proofs.lemmas.List.FromFn.{get_or-map-range_with_len, length-map-range_with_len}
use Rattle.std.proofs.lemmas.List.Sums.{sum_by-cons}
use Rattle.std.proofs.lemmas.List.{get_or_past}
use Rattle.aps_model.specs.declared.entry.Entry.{Entry}
use Rattle.aps_model.specs.declared.entry.Order.{Order}
use Rattle.aps_model.specs.declared.merit.Contender.{Contender}
use Rattle.aps_model.specs.declared.merit.PartFacts.{PartFacts}
use Rattle.aps_model.specs.declared.state.CpuNow.{CpuNow}
use Rattle.aps_model.specs.declared.state.Facts.{Facts}
use Rattle.aps_model.specs.declared.state.Pick.{Pick}
use Rattle.aps_model.specs.declared.state.State.{State}
use Rattle.aps_model.specs.declared.state.State.TheVariants.{Ready, Running, Sleeping, Sending, Receiving, Replying, Gone}
use Rattle.aps_model.specs.declared.state.ThreadNow.{ThreadNow}
use Rattle.laws_runs.specs.Starving.{HasEnough, active_of, is_active}
use Rattle.laws_runs.specs.Untouched.{AgreesOnRunning, thread_kept}
use Rattle.laws_runs.specs.Waits.{one_if, state_at}
use Rattle.laws_runs.proofs.Channels.{names_channels}
use Rattle.laws_runs.proofs.EachStep.{IsStanding}
use Rattle.laws_runs.proofs.Mid.{IsBack, back_mid, test_mid}
use Rattle.laws_runs.proofs.Picked.{IsReadyBest, greatest_ready}
use Rattle.laws_runs.proofs.PickSays.{facts_picked}
use Rattle.laws_runs.proofs.SmallNumbers.{one_of, sum_added, sum_bounded, sum_changed, sum_less, sum_same}
use Rattle.laws_runs.proofs.Sound.{legal_last, sound}
use Rattle.laws_runs.proofs.StepOf.{bill_at, mid_cpu, step_by, tested_at}
use Rattle.laws_runs.proofs.ThreadFacts.{set_other, set_same, within}
use Rattle.laws_runs.proofs.WaitFacts.{test_eq, test_ne}
use Rattle.aps_model.specs.After.{After, state_after}
use Rattle.aps_model.specs.Bill.{bill_of}
use Rattle.aps_model.specs.Budget.{all_parts, no_part, part_at, part_facts}
use Rattle.aps_model.specs.Due.{due, last_end}
use Rattle.aps_model.specs.Flag.{flag_for, with_flag}
use Rattle.aps_model.specs.Inherit.{facts_of}
use Rattle.aps_model.specs.Legal.{IsLegal}
use Rattle.aps_model.specs.Merit.{is_candidate, is_critical_pick}
use Rattle.aps_model.specs.Pick.{candidates, contender_of, contenders, greatest, is_ready, missing}
use Rattle.aps_model.specs.Scenario.{Scenario}
use Rattle.aps_model.specs.SchedulerState.{SchedulerState, cpu_at, idle, row_at, thread_at}
use Rattle.aps_model.specs.Partition.{row_or_none}
use Rattle.aps_model.specs.Shape.{whole}
use Rattle.aps_model.specs.Usage.{window_used}
use Rattle.aps_model.specs.Step.{Step, chosen, settled, step}
use Rattle.aps_model.specs.Valid.{IsScenario}
use Rattle.aps_model.proofs.AfterLaws.{after-append}

-- ---- counting

some_of : (t : ℕ → Bool) (n a : ℕ) → 1 ≤ sum_by (λ x. one_if (t x)) (range_with_len a n) → (x : ℕ) × (a ≤ x) × (x < a + n) × (t x ≡ true)
some_of t zero a some = absurd (omega arith)
some_of t (suc n) a some = by_test (t a) refl (some_of t n (a + 1))
  where
    by_test : (b : Bool) → t a ≡ b → (1 ≤ sum_by (λ x. one_if (t x)) (range_with_len (a + 1) n) → (x : ℕ) × (a + 1 ≤ x) × (x < a + 1 + n) × (t x ≡ true)) → (x : ℕ) × (a ≤ x) × (x < a + suc n) × (t x ≡ true)
    by_test true e f = (a, omega arith, omega arith, e)
    by_test false e f =
        let none : one_if (t a) ≡ 0 = ap one_if e in
        let r = f (omega (arith, some, none, sum_by-cons (λ x. one_if (t x)) a (range_with_len (a + 1) n))) in
        (r.0, omega (arith, r.1), omega (arith, r.2), r.3)

swapped : (g : ℕ → ℕ → ℕ) (xs ds : List ℕ) → sum_by (λ x. sum_by (λ d. g x d) ds) xs ≡ sum_by (λ d. sum_by (λ x. g x d) xs) ds
swapped g [] ds = sym (zeros ds)
  where
    zeros : (ds : List ℕ) → sum_by (λ (d : ℕ). 0) ds ≡ 0
    zeros [] = refl
    zeros (d ∷ ds) = omega (arith, sum_by-cons (λ (d : ℕ). 0) d ds, zeros ds)
swapped g (x ∷ xs) ds =
    omega (arith, sum_by-cons (λ y. sum_by (λ d. g y d) ds) x xs, swapped g xs ds, sum_added (λ d. g x d) (λ d. sum_by (λ y. g y d) xs) ds, sum_eq (λ d. sum_by (λ y. g y d) (x ∷ xs)) (λ d. g x d + sum_by (λ y. g y d) xs) ds (λ d. sum_by-cons (λ y. g y d) x xs))
  where
    sum_eq : (f k : ℕ → ℕ) (ds : List ℕ) → ((d : ℕ) → f d ≡ k d) → sum_by f ds ≡ sum_by k ds
    sum_eq f k [] e = refl
    sum_eq f k (d ∷ ds) e = omega (arith, sum_by-cons f d ds, sum_by-cons k d ds, e d, sum_eq f k ds e)

sum_has : (k n a : ℕ) → a ≤ k → k < a + n → 1 ≤ sum_by (λ d. one_if (nat_eq k d)) (range_with_len a n)
sum_has k zero a low high = absurd (omega arith)
sum_has k (suc n) a low high = elim (cases_eq k a) [
  | inl e ↦ omega (arith, sum_by-cons (λ d. one_if (nat_eq k d)) a (range_with_len (a + 1) n), ap one_if (test_eq k a e))
  | inr ne ↦ omega (arith, sum_by-cons (λ d. one_if (nat_eq k d)) a (range_with_len (a + 1) n), sum_has k n (a + 1) (omega (arith, ne)) (omega arith))
]

-- whether the thread runs there, as a number
abbrev runs : ℕ → State → ℕ
runs d (Running k) = one_if (nat_eq k d)
runs d Ready = 0
runs d (Sleeping until) = 0
runs d (Sending c) = 0
runs d (Receiving c) = 0
runs d (Replying x) = 0
runs d Gone = 0

ready_or_runs : (cpus : ℕ) (st : State) (t : Bool) → ((k : ℕ) → st ≡ Running k → k < cpus) → one_if (is_active st && t) ≤ one_if (is_ready st && t) + sum_by (λ d. runs d st) (range_with_len 0 cpus)
ready_or_runs cpus Ready t fits = omega arith
ready_or_runs cpus (Running k) t fits = let l = sum_has k cpus 0 (omega arith) (let f = fits k refl in omega (arith, f)) in by_test t l
  where
    by_test : (t : Bool) → 1 ≤ sum_by (λ d. one_if (nat_eq k d)) (range_with_len 0 cpus) → one_if t ≤ 0 + sum_by (λ d. one_if (nat_eq k d)) (range_with_len 0 cpus)
    by_test true l = omega arith
    by_test false l = omega arith
ready_or_runs cpus (Sleeping until) t fits = omega arith
ready_or_runs cpus (Sending d) t fits = omega arith
ready_or_runs cpus (Receiving d) t fits = omega arith
ready_or_runs cpus (Replying x) t fits = omega arith
ready_or_runs cpus Gone t fits = omega arith

-- who runs on d is the one thread that it keeps
runs_one : (d : ℕ) (o : Option ℕ) (st : State) (x : ℕ) → (st ≡ Running d → o ≡ Some x) → ((q : ℕ) → o ≡ Some q → runs d st ≤ cond (nat_eq q x) 1 0) × (o ≡ None → runs d st ≡ 0)
runs_one d o st x kept = elim (by_state st refl) [
  | inl zero' ↦ (λ q e. omega (arith, zero'), λ e. zero')
  | inr on ↦ (
    λ q e. let same = some_same q x (sym e ∙ kept on) in let one : ◌≡◌ {A = ℕ} (cond (nat_eq q x) 1 0) 1 = ap (λ t. cond t 1 0) (test_eq q x same) in omega (arith, one, at_most),
    λ e. absurd (nobody x (sym e ∙ kept on)),
  )
]
  where
    some_same : (a b : ℕ) → Some a ≡ Some b → a ≡ b
    some_same a b e = cc

    nobody : (a : ℕ) → None ≡ Some a → ⊥
    nobody a e = cc

    one_at_most : (t : Bool) → one_if t ≤ 1
    one_at_most true = omega arith
    one_at_most false = omega arith

    run_at_most : (st : State) → runs d st ≤ 1
    run_at_most (Running k) = one_at_most (nat_eq k d)
    run_at_most Ready = omega arith
    run_at_most (Sleeping until) = omega arith
    run_at_most (Sending c) = omega arith
    run_at_most (Receiving c) = omega arith
    run_at_most (Replying y) = omega arith
    run_at_most Gone = omega arith

    at_most : runs d st ≤ 1
    at_most = run_at_most st

    by_state : (z : State) → st ≡ z → (runs d z ≡ 0) ⊎ (z ≡ Running d)
    by_state (Running k) e = elim (cases_eq k d) [
      | inl same ↦ inr (ap (λ n. Running n) same)
      | inr ne ↦ inl (ap one_if (test_ne k d ne))
    ]
    by_state Ready e = inl refl
    by_state (Sleeping until) e = inl refl
    by_state (Sending c) e = inl refl
    by_state (Receiving c) e = inl refl
    by_state (Replying y) e = inl refl
    by_state Gone e = inl refl

-- before the pick, where c runs nobody, each other processor runs what it keeps
record IsVacant (r : SchedulerState) (c : ℕ) : Type 0 where
  exists : c < r.shape.cpus
  off : (y : ℕ) → state_at r y ≢ Running c
  fits : (y d : ℕ) → state_at r y ≡ Running d → d < r.shape.cpus
  kept : (y d : ℕ) → d ≢ c → state_at r y ≡ Running d → thread_kept (cpu_at r d).running ≡ Some y

few_on : (r : SchedulerState) (c d n : ℕ) → IsVacant r c → sum_by (λ x. runs d (state_at r x)) (range_with_len 0 n) ≤ one_if (not (nat_eq d c))
few_on r c d n v = elim (cases_eq d c) [
  | inl e ↦
      let none = sum_bounded (λ x. runs d (state_at r x)) 0 n 0 (λ x. let o = (runs_one d None (state_at r x) x (λ run. absurd (v.off x (run ∙ ap (λ k. Running k) e)))).1 refl in omega (arith, o)) in
      omega (arith, none)
  | inr ne ↦
      let one : one_if (not (nat_eq d c)) ≡ 1 = ap (λ t. one_if (not t)) (test_ne d c ne) in
      let few = by_kept (thread_kept (cpu_at r d).running) (λ x run. v.kept x d ne run) in
      omega (arith, few, one)
]
  where
    by_kept : (o : Option ℕ) → ((x : ℕ) → state_at r x ≡ Running d → o ≡ Some x) → sum_by (λ x. runs d (state_at r x)) (range_with_len 0 n) ≤ 1
    by_kept None kept = let l = sum_bounded (λ x. runs d (state_at r x)) 0 n 0 (λ x. let o = (runs_one d None (state_at r x) x (kept x)).1 refl in omega (arith, o)) in omega (arith, l)
    by_kept (Some q) kept = let l = sum_less (λ x. runs d (state_at r x)) (λ x. cond (nat_eq q x) 1 0) (range_with_len 0 n) (λ x. (runs_one d (Some q) (state_at r x) x (kept x)).0 q refl) in let o = one_of q 1 n 0 in omega (arith, l, o)

-- all but one
all_but : (c cpus : ℕ) → c < cpus → sum_by (λ d. one_if (not (nat_eq d c))) (range_with_len 0 cpus) + 1 ≤ cpus
all_but c cpus below =
    let here : 1 ≡ one_if (not (nat_eq c c)) + 1 = sym (ap (λ t. one_if (not t) + 1) (test_eq c c refl)) in
    let more = sum_changed (λ d. one_if (not (nat_eq d c))) (λ d. 1) c 1 cpus 0 (omega arith) (omega arith) here (λ d ne. sym (ap (λ t. one_if (not t)) (test_ne d c ne))) in
    let most = sum_bounded (λ d. 1) 1 cpus 0 (λ d. omega arith) in
    omega (arith, more, most)

-- with as many active threads of a kind as there are processors, one of them is ready
one_ready : (r : SchedulerState) (c n : ℕ) (t : ℕ → Bool) → IsVacant r c → r.shape.cpus ≤ sum_by (λ x. one_if (is_active (state_at r x) && t x)) (range_with_len 0 n)
    → (x : ℕ) × (0 ≤ x) × (x < 0 + n) × ((is_ready (state_at r x) && t x) ≡ true)
one_ready r c n t v enough =
    let cpus = r.shape.cpus in
    let a = sum_less (λ x. one_if (is_active (state_at r x) && t x)) (λ x. one_if (is_ready (state_at r x) && t x) + sum_by (λ d. runs d (state_at r x)) (range_with_len 0 cpus)) (range_with_len 0 n)
    (λ x. ready_or_runs cpus (state_at r x) (t x) (λ k e. v.fits x k e)) in
    let b = sum_added (λ x. one_if (is_ready (state_at r x) && t x)) (λ x. sum_by (λ d. runs d (state_at r x)) (range_with_len 0 cpus)) (range_with_len 0 n) in
    let s = swapped (λ x d. runs d (state_at r x)) (range_with_len 0 n) (range_with_len 0 cpus) in
    let f = sum_less (λ d. sum_by (λ x. runs d (state_at r x)) (range_with_len 0 n)) (λ d. one_if (not (nat_eq d c))) (range_with_len 0 cpus) (λ d. few_on r c d n v) in
    let l = all_but c cpus v.exists in
    some_of (λ x. is_ready (state_at r x) && t x) n 0 (omega (arith, enough, a, b, s, f, l))

-- ---- a ready thread of the partition is a candidate

any_kept : {X : Type 0} (f : ℕ → X) (p k q : X → Bool) (n a x : ℕ) → a ≤ x → x < a + n → p (f x) ≡ true → k (f x) ≡ true → q (f x) ≡ true → list_any q (filter k (filter p (map f (range_with_len a n)))) ≡ true
any_kept f p k q zero a x low high ep ek eq = absurd (omega arith)
any_kept {X} f p k q (suc n) a x low high ep ek eq = elim (cases_eq a x) [
  | inl e ↦
      subst (λ b. list_any q (filter k (cond b (f a ∷ filter p rest) (filter p rest))) ≡ true) (sym (ap (λ y. p (f y)) e ∙ ep))
      (subst (λ b. list_any q (cond b (f a ∷ filter k (filter p rest)) (filter k (filter p rest))) ≡ true) (sym (ap (λ y. k (f y)) e ∙ ek))
      (ap (λ b. b || list_any q (filter k (filter p rest))) (ap (λ y. q (f y)) e ∙ eq)))
  | inr ne ↦ by_p (p (f a)) (any_kept f p k q n (a + 1) x (omega (arith, ne)) (omega arith) ep ek eq)
]
  where
    rest : List X
    rest = map f (range_with_len (a + 1) n)

    or_true : (b : Bool) → (b || true) ≡ true
    or_true true = refl
    or_true false = refl

    by_k : (b : Bool) → list_any q (filter k (filter p rest)) ≡ true → list_any q (cond b (f a ∷ filter k (filter p rest)) (filter k (filter p rest))) ≡ true
    by_k true m = ap (λ t. q (f a) || t) m ∙ or_true (q (f a))
    by_k false m = m

    by_p : (b : Bool) → list_any q (filter k (filter p rest)) ≡ true → list_any q (filter k (cond b (f a ∷ filter p rest) (filter p rest))) ≡ true
    by_p true m = by_k (k (f a)) m
    by_p false m = m

none_found : (f : ℕ → Bool) (n a : ℕ) → ((p : ℕ) → a ≤ p → p < a + n → f p ≡ false) → find f (range_with_len a n) ≡ None
none_found f zero a all = refl
none_found f (suc n) a all =
    ap (λ b. cond b (Some a) (find f (range_with_len (a + 1) n))) (all a (omega arith) (omega arith)) ∙ none_found f n (a + 1) (λ p low high. all p (omega arith) (omega arith))

-- nobody is starved before this pick
none_missing : (r : SchedulerState) (c : ℕ) (h : List Entry) (j : ℕ) → IsVacant r c → HasEnough r → missing (all_parts r.shape r.rows h j) (contenders r) ≡ None
none_missing r c h j v m =
    let ps = all_parts r.shape r.rows h j in
    let count : length ps ≡ length r.rows = length-map-range_with_len (part_facts r.shape r.rows h j) 0 (length r.rows) in
    none_found (λ p. nat_lt 0 (part_at ps p).budget && not (list_any (λ (k : Contender). nat_eq k.facts.partition p) (candidates ps (contenders r)))) (length ps) 0
    (λ p low high. by_budget p (subst (λ n. p < n) count (omega (arith, high))) (nat_lt 0 (part_at ps p).budget) refl)
  where
    parts : List PartFacts
    parts = all_parts r.shape r.rows h j

    here : (p : ℕ) → p < length r.rows → part_at parts p ≡ part_facts r.shape r.rows h j p
    here p below = get_or-map-range_with_len (part_facts r.shape r.rows h j) 0 (length r.rows) p p no_part below (omega arith)

    unshut : r.shape.limit ≡ false → (p : ℕ) → (part_facts r.shape r.rows h j p).shut ≡ false
    unshut none p = ap (λ b. b && nat_le ((row_or_none r.rows p).max * whole r.shape) (r.shape.parts * window_used r.shape h j p)) none

    candidate : (part : PartFacts) (facts : Facts) → part.shut ≡ false → is_candidate facts part ≡ true
    candidate part facts e = ap (λ b. not b || is_critical_pick facts part) e

    both : (a b : Bool) → (a && b) ≡ true → (a ≡ true) × (b ≡ true)
    both true true e = (refl, refl)
    both true false e = absurd cc
    both false b e = absurd cc

    by_budget : (p : ℕ) → p < length r.rows → (t : Bool) → nat_lt 0 (part_at parts p).budget ≡ t → (t && not (list_any (λ (k : Contender). nat_eq k.facts.partition p) (candidates parts (contenders r)))) ≡ false
    by_budget p below false e = refl
    by_budget p below true e =
        let budget : 0 < (row_at r p).budget = subst (λ (k : PartFacts). 0 < k.budget) (here p below) (ltb-true 0 (part_at parts p).budget e) in
        let found = one_ready r c (length r.threads) (λ x. nat_eq (facts_of r x).partition p) v (m.threads p below budget) in
        let x = found.0 in
        let is = both (is_ready (state_at r x)) (nat_eq (facts_of r x).partition p) found.3 in
        let partition : (facts_of r x).partition ≡ p = eqb-true (facts_of r x).partition p is.1 in
        let part : part_at parts (facts_of r x).partition ≡ part_facts r.shape r.rows h j p = ap (part_at parts) partition ∙ here p below in
        let shut : (part_at parts (facts_of r x).partition).shut ≡ false = ap (λ (k : PartFacts). k.shut) part ∙ unshut m.unlimited p in
        let any = any_kept (contender_of r) (λ (k : Contender). is_ready (thread_at r k.thread).state) (λ (k : Contender). is_candidate k.facts (part_at parts k.facts.partition)) (λ (k : Contender). nat_eq k.facts.partition p) (length r.threads) 0 x (omega arith) found.2
        is.0 (candidate (part_at parts (facts_of r x).partition) (facts_of r x) shut) is.1 in
        ap (λ b. not b) any

-- ---- the pick and the flag leave as many

still_active : (r : SchedulerState) (ps : List PartFacts) (c : ℕ) (b : Contender) (x : ℕ) → state_at r b.thread ≡ Ready → is_active (state_at (chosen r ps c (Some b)) x) ≡ is_active (state_at r x)
still_active r ps c b x ready = elim (cases_eq x b.thread) [
  | inl e ↦
      ap (λ k. is_active (state_at (chosen r ps c (Some b)) k)) e
      ∙ ap (λ (t : ThreadNow). is_active t.state) (set_same r.threads b.thread (record (thread_at r b.thread) { state = Running c }) (within r.threads b.thread (λ g. cc)))
      ∙ sym (ap is_active ready)
      ∙ ap (λ k. is_active (state_at r k)) (sym e)
  | inr ne ↦ ap (λ (t : ThreadNow). is_active t.state) (set_other r.threads b.thread x _ ne)
]

active_picked : (r : SchedulerState) (ps : List PartFacts) (c : ℕ) (b : Contender) (p : ℕ) → state_at r b.thread ≡ Ready → active_of (chosen r ps c (Some b)) p ≡ active_of r p
active_picked r ps c b p ready =
    ap (λ n. sum_by (λ x. one_if (is_active (state_at (chosen r ps c (Some b)) x) && nat_eq (facts_of (chosen r ps c (Some b)) x).partition p)) (range_with_len 0 n)) (length-set r.threads b.thread _)
    ∙ sum_same (λ x. one_if (is_active (state_at r x) && nat_eq (facts_of r x).partition p)) (λ x. one_if (is_active (state_at (chosen r ps c (Some b)) x) && nat_eq (facts_of (chosen r ps c (Some b)) x).partition p)) (length r.threads) 0
    (λ x l.
    ap (λ t. one_if (t && nat_eq (facts_of (chosen r ps c (Some b)) x).partition p)) (still_active r ps c b x ready)
    ∙ ap (λ (f : Facts). one_if (is_active (state_at r x) && nat_eq f.partition p)) (facts_picked r ps c (Some b) x))

enough_picked : (r : SchedulerState) (ps : List PartFacts) (c : ℕ) (best : Option Contender) → ((b : Contender) → best ≡ Some b → IsReadyBest r b) → HasEnough (chosen r ps c best) → HasEnough r
enough_picked r ps c None ready m = record { unlimited = m.unlimited; threads = m.threads }
enough_picked r ps c (Some b) ready m = record { unlimited = m.unlimited; threads = λ p below budget. let l = m.threads p below budget in omega (arith, l, active_picked r ps c b p (ready b refl).ready) }

enough_flagged : (s : SchedulerState) (now : ℕ) (o : Option ℕ) → HasEnough (with_flag s now o) → HasEnough s
enough_flagged s now None m = m
enough_flagged s now (Some d) m = record { unlimited = m.unlimited; threads = m.threads }

-- ---- the step

bill_starves : (c from now : ℕ) (running : Option Pick) → (bill_of c from now running).starved ≡ None
bill_starves c from now None = refl
bill_starves c from now (Some p) = refl

vacant : (scenario : Scenario) (s : SchedulerState) (c : ℕ) (r : SchedulerState) → AgreesOnRunning s → c < s.shape.cpus → length s.cpus ≡ s.shape.cpus → IsBack scenario s c r → IsVacant r c
vacant scenario s c r k exists count b = record {
  exists = subst (λ n. c < n) (sym b.mid.sizes.cpus) exists;
  off = λ y run. b.off y run;
  fits = λ y d run. elim (cases_eq d c) [
    | inl e ↦ subst (λ n. d < n) (sym b.mid.sizes.cpus) (subst (λ n. n < s.shape.cpus) (sym e) exists)
    | inr ne ↦ subst (λ n. d < n) (count ∙ sym b.mid.sizes.cpus) (keeps_below d y (k.kept y d (b.mid.no_more y d ne run)))
  ];
  kept = λ y d ne run. ap (λ (z : CpuNow). thread_kept z.running) (mid_cpu scenario s c r b.mid d ne) ∙ k.kept y d (b.mid.no_more y d ne run);
}
  where
    keeps_below : (d y : ℕ) → thread_kept (cpu_at s d).running ≡ Some y → d < length s.cpus
    keeps_below d y e = elim (cases_lt d (length s.cpus)) [
      | inl below ↦ below
      | inr past ↦ absurd (none (sym (ap (λ (z : CpuNow). thread_kept z.running) (get_or_past s.cpus d idle past)) ∙ e))
    ]
      where
        none : None ≡ Some y → ⊥
        none e = cc

-- where there is enough after the step, it told of nobody that was starved
step_feeds : (scenario : Scenario) (s : SchedulerState) (h : List Entry) (c : ℕ) → IsStanding scenario s c → c < s.shape.cpus → length s.cpus ≡ s.shape.cpus → HasEnough (step scenario s h c).state → (step scenario s h c).entry.starved ≡ None
step_feeds scenario s h c st exists count =
    let now = due s h c in
    let running = (cpu_at s c).running in
    let mid = test_mid scenario s h c now (bill_at s h c) running st.plain st.kept refl in
    let s3 = (tested_at scenario s h c).state in
    let back = back_mid scenario s s3 c now running st.names st.kept refl mid in
    step_by scenario s h c (λ (out : Step). HasEnough out.state → out.entry.starved ≡ None)
    (λ o why m. bill_starves c (last_end h c) now running)
    (λ early m.
    let did = settled scenario s3 now running in
    let r = did.state in
    let j = now / r.shape.tick in
    let g = h ++ (record (bill_at s h c) { done = did.done }) ∷ [] in
    let ps = all_parts r.shape r.rows g j in
    let best = greatest r.shape.free ps (contenders r) in
    let q = chosen r ps c best in
    none_missing r c g j (vacant scenario s c r st.kept exists count back)
    (enough_picked r ps c best (greatest_ready r r.shape.free ps) (enough_flagged q now (flag_for q h ps c now (greatest r.shape.free ps (contenders q))) m)))

pub enough_law : (scenario : Scenario) (order : Order) (h : List Entry) (e : Entry) → IsScenario scenario → IsLegal scenario order (h ++ e ∷ []) → HasEnough (state_after scenario (h ++ e ∷ [])) → e.starved ≡ None
enough_law scenario order h e r legal m =
    let last = legal_last scenario order h e legal in
    let g = (sound scenario order r h last.0).grounded in
    let s = state_after scenario h in
    let stand : IsStanding scenario s e.cpu = record { names = names_channels scenario r; plain = g.plain; kept = g.kept; call = g.sizes.call_ns } in
    let enough : HasEnough (step scenario s h e.cpu).state = subst HasEnough (ap (λ (a : After). a.state) (after-append scenario h e)) m in
    ap (λ (x : Entry). x.starved) last.1.same ∙ step_feeds scenario s h e.cpu stand last.1.turn.exists g.cpu_count enough
