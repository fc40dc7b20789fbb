-- Moments, dues and flags through one step.
use Rattle.std.proofs.Common.{◌≡◌, ◌≢◌, ℕ, ◌+◌, ◌*◌, ◌<◌, ◌≤◌, min, List, [], ◌∷◌, ◌++◌, length, refl, sym, ◌∙◌, ap, subst, zero, suc, Bool, true, false, cond, nat_eq, ◌&&◌, Option, Some, None, arith, inl, inr, ◌⊎◌}
use Rattle.std.specs.List.{list_all, range_with_len}
use Rattle.std.proofs.lemmas.List.Sums.{fold-append}
use Rattle.std.proofs.lemmas.List.{get_or_past}
use Rattle.std.proofs.lemmas.Bool.{cases_eq, cases_lt}
use Rattle.aps_model.specs.declared.entry.Entry.{Entry}
use Rattle.aps_model.specs.declared.entry.Order.{Order}
use Rattle.aps_model.specs.declared.state.CpuNow.{CpuNow}
use Rattle.laws_runs.specs.Untouched.{IsStepOf}
use Rattle.laws_runs.specs.Moments.{IsTimely, moment}
use Rattle.laws_runs.proofs.WaitFacts.{test_ne, test_eq}
use Rattle.laws_runs.proofs.StepOf.{left_kept, due_like, horizon_same}
use Rattle.aps_model.specs.After.{is_at_horizon, over, stands_at}
use Rattle.aps_model.specs.Due.{HasTurn, due, due_at, last_to, left_running, next_boundary, or_end}
use Rattle.aps_model.specs.Scenario.{Scenario}
use Rattle.aps_model.specs.SchedulerState.{SchedulerState, cpu_at, idle}
use Rattle.aps_model.specs.Shape.{horizon}

pub moment-append : (h : List Entry) (e : Entry) → moment (h ++ e ∷ []) ≡ e.to
moment-append h e = fold-append (λ (_ : ℕ) (e : Entry). e.to) 0 h (e ∷ [])

last-append : (h : List Entry) (e : Entry) (d : ℕ) → last_to (h ++ e ∷ []) d ≡ cond (nat_eq e.cpu d) (Some e.to) (last_to h d)
last-append h e d = fold-append (λ (found : Option ℕ) (e : Entry). cond (nat_eq e.cpu d) (Some e.to) found) None h (e ∷ [])

pub last_own : (h : List Entry) (e : Entry) (d : ℕ) → e.cpu ≡ d → last_to (h ++ e ∷ []) d ≡ Some e.to
last_own h e d same = last-append h e d ∙ ap (λ t. cond t (Some e.to) (last_to h d)) (test_eq e.cpu d same)

pub last_other : (h : List Entry) (e : Entry) (d : ℕ) → e.cpu ≢ d → last_to (h ++ e ∷ []) d ≡ last_to h d
last_other h e d ne = last-append h e d ∙ ap (λ t. cond t (Some e.to) (last_to h d)) (test_ne e.cpu d ne)

-- ---- the due of an unflagged processor

boundary_above : (tick z : ℕ) → 0 < tick → z < next_boundary tick z
boundary_above tick z pos = search (arith)

-- it lies between the last end and the next boundary
pub due_between : (tick end z : ℕ) (left : Option ℕ) → 0 < tick → (z ≤ due_at tick end None (Some z) left) × (due_at tick end None (Some z) left ≤ next_boundary tick z)
due_between tick end z left pos = by_test (nat_eq z end) left
  where
    by_test : (t : Bool) (left : Option ℕ) → (z ≤ cond t (next_boundary tick z) (or_end (next_boundary tick z) z left)) × (cond t (next_boundary tick z) (or_end (next_boundary tick z) z left) ≤ next_boundary tick z)
    by_test true left = let l = boundary_above tick z pos in (omega arith, omega arith)
    by_test false None = let l = boundary_above tick z pos in (omega arith, omega arith)
    by_test false (Some n) = let l = boundary_above tick z pos in (omega arith, omega arith)

-- it is not after the end of the operation
due_exact : (tick end z n : ℕ) → z ≢ end → due_at tick end None (Some z) (Some n) ≤ z + n
due_exact tick end z n ne = subst (λ b. cond b (next_boundary tick z) (min (next_boundary tick z) (z + n)) ≤ z + n) (sym (test_ne z end ne)) (omega arith)

-- a flagged processor is due at its flag
pub flag_due : (s : SchedulerState) (h : List Entry) (d f : ℕ) → (cpu_at s d).flag ≡ Some f → (last_to h d ≡ None → ⊥) → due s h d ≡ f
flag_due s h d f flag stepped =
    ap (λ o. due_at s.shape.tick (horizon s.shape) o (last_to h d) (left_running s (cpu_at s d).running)) flag ∙ by_last (last_to h d) stepped
  where
    by_last : (last : Option ℕ) → (last ≡ None → ⊥) → due_at s.shape.tick (horizon s.shape) (Some f) last (left_running s (cpu_at s d).running) ≡ f
    by_last None st = absurd (st refl)
    by_last (Some z) st = refl

-- who has no entry is due at 0
pub first_is_due : (s : SchedulerState) (h : List Entry) (d : ℕ) → last_to h d ≡ None → due s h d ≡ 0
first_is_due s h d none =
    ap (λ o. due_at s.shape.tick (horizon s.shape) (cpu_at s d).flag o (left_running s (cpu_at s d).running)) none

-- who is due later than some moment has stepped
stepped_later : (s : SchedulerState) (h : List Entry) (d n : ℕ) → n < due s h d → last_to h d ≡ None → ⊥
stepped_later s h d n l e = omega (arith, first_is_due s h d e)

pub flag_below : (s : SchedulerState) (d f : ℕ) → (cpu_at s d).flag ≡ Some f → d < length s.cpus
flag_below s d f e = elim (cases_lt d (length s.cpus)) [
  | inl below ↦ below
  | inr past ↦ absurd (nothing (sym (ap (λ (z : CpuNow). z.flag) (get_or_past s.cpus d idle past)) ∙ e))
]
  where
    nothing : None ≡ Some f → ⊥
    nothing k = cc

-- another processor after the step
record IsOther (s : SchedulerState) (h : List Entry) (c : ℕ) (e : Entry) (t : SchedulerState) (d : ℕ) : Type 0 where
  last : last_to (h ++ e ∷ []) d ≡ last_to h d
  due_is : ((cpu_at t d).flag ≡ (cpu_at s d).flag) × (due t (h ++ e ∷ []) d ≡ due s h d)
      ⊎ (((cpu_at t d).flag ≡ Some (due s h c)) × (due t (h ++ e ∷ []) d ≡ due s h c) × (due s h c < due s h d) × (due s h c ≢ horizon s.shape))

other : (scenario : Scenario) (s : SchedulerState) (h : List Entry) (c : ℕ) (e : Entry) (t : SchedulerState) (d : ℕ) → IsStepOf scenario s h c e t → d ≢ c → IsOther s h c e t d
other scenario s h c e t d st ne =
    let last : last_to (h ++ e ∷ []) d ≡ last_to h d = last_other h e d (λ k. ne (sym k ∙ st.cpu)) in
    let now_is = due_like s t h (h ++ e ∷ []) d st.sizes last (left_kept s t d (st.others_running d ne) (λ p f. st.others_thread d p ne f)) in
    record {
      last = last;
      due_is = elim (st.others_flag d ne) [
        | inl same ↦ inl (same, now_is ∙ ap (λ z. due_at s.shape.tick (horizon s.shape) z (last_to h d) (left_running s (cpu_at s d).running)) same)
        | inr set ↦ inr (
          set.0,
          flag_due t (h ++ e ∷ []) d (due s h c) set.0 (λ none. stepped_later s h d (due s h c) set.1 (sym last ∙ none)),
          set.1,
          set.2,
        )
      ];
    }

-- the processor that stepped is due between now and the next boundary
own_due : (scenario : Scenario) (s : SchedulerState) (h : List Entry) (c : ℕ) (e : Entry) (t : SchedulerState) → 0 < s.shape.tick → IsStepOf scenario s h c e t
    → (due s h c ≤ due t (h ++ e ∷ []) c) × (due t (h ++ e ∷ []) c ≤ next_boundary s.shape.tick (due s h c))
own_due scenario s h c e t pos st =
    let left = left_running t (cpu_at t c).running in
    let is : due t (h ++ e ∷ []) c ≡ due_at s.shape.tick (horizon s.shape) None (Some (due s h c)) left =
    ap (λ n. due_at n (horizon t.shape) (cpu_at t c).flag (last_to (h ++ e ∷ []) c) left) st.sizes.tick
    ∙ ap (λ n. due_at s.shape.tick n (cpu_at t c).flag (last_to (h ++ e ∷ []) c) left) (horizon_same s.shape t.shape st.sizes)
    ∙ ap (λ z. due_at s.shape.tick (horizon s.shape) z (last_to (h ++ e ∷ []) c) left) st.own_flag
    ∙ ap (λ z. due_at s.shape.tick (horizon s.shape) None z left) (last_own h e c st.cpu ∙ ap (λ z. Some z) st.to) in
    let between = due_between s.shape.tick (horizon s.shape) (due s h c) left pos in
    (omega (arith, between.0, is), omega (arith, between.1, is))

some_same : (a b : ℕ) → Some a ≡ Some b → a ≡ b
some_same a b e = cc

boundary_within : (k tick z : ℕ) → 0 < tick → z < k * tick → next_boundary tick z ≤ k * tick
boundary_within k tick z pos below = search (arith)

-- some processor doesn't stand at the horizon yet
some_fails : (p : ℕ → Bool) (n a : ℕ) → list_all p (range_with_len a n) ≡ false → (x : ℕ) × (x < a + n) × (p x ≡ false)
some_fails p zero a e = absurd cc
some_fails p (suc n) a e = by_test (p a) refl (some_fails p n (a + 1)) e
  where
    by_test : (t : Bool) → p a ≡ t → (list_all p (range_with_len (a + 1) n) ≡ false → (x : ℕ) × (x < a + 1 + n) × (p x ≡ false))
        → (t && list_all p (range_with_len (a + 1) n)) ≡ false → (x : ℕ) × (x < a + suc n) × (p x ≡ false)
    by_test true is f k = let r = f k in (r.0, omega arith, r.2)
    by_test false is f k = (a, omega arith, is)

-- who has the turn doesn't stand at the horizon
pub turn_early : (order : Order) (s : SchedulerState) (h : List Entry) (c z : ℕ) → 0 < s.shape.tick → IsTimely s h → is_at_horizon s h ≡ false → HasTurn order s h c → last_to h c ≡ Some z → z < horizon s.shape
turn_early order s h c z pos m over turn is =
    elim (cases_eq z (horizon s.shape)) [
      | inr ne ↦ let l = m.within c z is in omega arith
      | inl same ↦ absurd (at_horizon (cpu_at s c).flag refl same)
    ]
  where
    late : (left : Option ℕ) → z ≡ horizon s.shape → due_at s.shape.tick (horizon s.shape) None (Some z) left ≡ next_boundary s.shape.tick z
    late left same = ap (λ t. cond t (next_boundary s.shape.tick z) (or_end (next_boundary s.shape.tick z) z left)) (test_eq z (horizon s.shape) same)

    early_due : (d : ℕ) (last left : Option ℕ) → d < s.shape.cpus → last_to h d ≡ last → stands_at (horizon s.shape) last ≡ false → due s h d ≤ horizon s.shape
    early_due d None left below e stands = omega (arith, first_is_due s h d e)
    early_due d (Some y) left below e stands =
        let l = m.within d y e in
        let ne : y ≢ horizon s.shape = λ k. clash (sym (test_eq y (horizon s.shape) k) ∙ stands) in
        let b = boundary_within s.shape.ticks s.shape.tick y pos (omega arith) in
        let n = m.soon d y e in
        omega arith
      where
        clash : ◌≡◌ {A = Bool} true false → ⊥
        clash k = cc

    at_horizon : (o : Option ℕ) → (cpu_at s c).flag ≡ o → z ≡ horizon s.shape → ⊥
    at_horizon (Some f) e same =
        let a = m.flag_now c f e in
        let b = m.behind c z is in
        m.flag_early c f e (omega (arith, a, b, m.moment_within))
    at_horizon None e same =
        let free = some_fails (λ k. stands_at (horizon s.shape) (last_to h k)) s.shape.cpus 0 over in
        let d = free.0 in
        let below : d < s.shape.cpus = omega (arith, free.1) in
        let due_d = early_due d (last_to h d) None below refl free.2 in
        let due_c : due s h c ≡ next_boundary s.shape.tick z =
        ap (λ k. due_at s.shape.tick (horizon s.shape) k (last_to h c) (left_running s (cpu_at s c).running)) e
        ∙ ap (λ k. due_at s.shape.tick (horizon s.shape) None k (left_running s (cpu_at s c).running)) is
        ∙ late (left_running s (cpu_at s c).running) same in
        omega (arith, due_c, due_d, turn.least d below, boundary_above s.shape.tick z pos)

-- so its due is at most the horizon
pub due_within : (order : Order) (s : SchedulerState) (h : List Entry) (c : ℕ) → 0 < s.shape.tick → IsTimely s h → is_at_horizon s h ≡ false → HasTurn order s h c → due s h c ≤ horizon s.shape
due_within order s h c pos m over turn = by_last (last_to h c) refl
  where
    by_last : (last : Option ℕ) → last_to h c ≡ last → due s h c ≤ horizon s.shape
    by_last None e = omega (arith, first_is_due s h c e)
    by_last (Some z) e =
        let l = turn_early order s h c z pos m over turn e in
        let b = boundary_within s.shape.ticks s.shape.tick z pos l in
        let n = m.soon c z e in
        omega arith

pub timely_step : (scenario : Scenario) (order : Order) (s : SchedulerState) (h : List Entry) (c : ℕ) (e : Entry) (t : SchedulerState)
    → 0 < s.shape.tick → length s.cpus ≡ s.shape.cpus → is_at_horizon s h ≡ false → HasTurn order s h c → IsTimely s h → IsStepOf scenario s h c e t → IsTimely t (h ++ e ∷ [])
timely_step scenario order s h c e t pos cpus over turn m st =
    let in_run : due s h c ≤ horizon s.shape = due_within order s h c pos m over turn in
    let now : moment (h ++ e ∷ []) ≡ due s h c = moment-append h e ∙ st.to in
    let own = own_due scenario s h c e t pos st in
    let past : moment h ≤ due s h c = m.ahead c turn.exists in
    record {
      ahead = λ d below.
          let below' : d < s.shape.cpus = subst (λ n. d < n) st.sizes.cpus below in
          elim (cases_eq d c) [
            | inl same ↦ subst (λ k. moment (h ++ e ∷ []) ≤ due t (h ++ e ∷ []) k) (sym same) (omega (arith, now, own.0))
            | inr ne ↦ elim (other scenario s h c e t d st ne).due_is [
              | inl as_was ↦ omega (arith, now, as_was.1, turn.least d below')
              | inr set ↦ omega (arith, now, set.1)
            ]
          ];
      behind = λ d z is. elim (cases_eq d c) [
        | inl same ↦
            let at : Some e.to ≡ Some z = sym (last_own h e d (st.cpu ∙ sym same)) ∙ is in
            omega (arith, now, st.to, some_same e.to z at)
        | inr ne ↦ omega (arith, now, past, m.behind d z (sym (last_other h e d (λ k. ne (sym k ∙ st.cpu))) ∙ is))
      ];
      flag_now = λ d f is. elim (cases_eq d c) [
        | inl same ↦ absurd (nothing f (sym st.own_flag ∙ ap (λ k. (cpu_at t k).flag) (sym same) ∙ is))
        | inr ne ↦ elim (other scenario s h c e t d st ne).due_is [
          | inr set ↦ some_same f _ (sym is ∙ set.0) ∙ sym now
          | inl as_was ↦
              let was : (cpu_at s d).flag ≡ Some f = sym as_was.0 ∙ is in
              let below : d < s.shape.cpus = subst (λ n. d < n) cpus (flag_below s d f was) in
              let due_f : due s h d ≡ f =
              flag_due s h d f was (m.flag_stepped d f was) in
              omega (arith, now, due_f, turn.least d below, past, m.flag_now d f was)
        ]
      ];
      flag_stepped = λ d f is none. elim (cases_eq d c) [
        | inl same ↦ absurd (nothing f (sym st.own_flag ∙ ap (λ k. (cpu_at t k).flag) (sym same) ∙ is))
        | inr ne ↦
            let o = other scenario s h c e t d st ne in
            elim o.due_is [
              | inr set ↦ stepped_later s h d (due s h c) set.2 (sym o.last ∙ none)
              | inl as_was ↦ m.flag_stepped d f (sym as_was.0 ∙ is) (sym o.last ∙ none)
            ]
      ];
      flag_early = λ d f is at. elim (cases_eq d c) [
        | inl same ↦ absurd (nothing f (sym st.own_flag ∙ ap (λ k. (cpu_at t k).flag) (sym same) ∙ is))
        | inr ne ↦
            let at' : f ≡ horizon s.shape = at ∙ horizon_same s.shape t.shape st.sizes in
            elim (other scenario s h c e t d st ne).due_is [
              | inr set ↦ set.3 (sym (some_same f _ (sym is ∙ set.0)) ∙ at')
              | inl as_was ↦ m.flag_early d f (sym as_was.0 ∙ is) at'
            ]
      ];
      within = λ d z is. subst (λ n. z ≤ n) (sym (horizon_same s.shape t.shape st.sizes))
          (elim (cases_eq d c) [
            | inl same ↦
                let at : e.to ≡ z = some_same e.to z (sym (last_own h e d (st.cpu ∙ sym same)) ∙ is) in
                omega (arith, at, st.to, in_run)
            | inr ne ↦ m.within d z (sym (other scenario s h c e t d st ne).last ∙ is)
          ]);
      moment_within = subst (λ n. moment (h ++ e ∷ []) ≤ n) (sym (horizon_same s.shape t.shape st.sizes)) (omega (arith, now, in_run));
      exact = λ d z n is left ne. elim (cases_eq d c) [
        | inl same ↦
            let at : e.to ≡ z = some_same e.to z (sym (last_own h e d (st.cpu ∙ sym same)) ∙ is) in
            let at' : due s h c ≡ z = sym st.to ∙ at in
            let own_left : left_running t (cpu_at t c).running ≡ Some n = ap (λ k. left_running t (cpu_at t k).running) (sym same) ∙ left in
            let due_is : due t (h ++ e ∷ []) c ≡ due_at t.shape.tick (horizon t.shape) None (Some z) (Some n) =
            ap (λ o. due_at t.shape.tick (horizon t.shape) o (last_to (h ++ e ∷ []) c) (left_running t (cpu_at t c).running)) st.own_flag
            ∙ ap (λ o. due_at t.shape.tick (horizon t.shape) None o (left_running t (cpu_at t c).running)) (last_own h e c st.cpu ∙ ap (λ k. Some k) at)
            ∙ ap (due_at t.shape.tick (horizon t.shape) None (Some z)) own_left in
            subst (λ k. due t (h ++ e ∷ []) k ≤ z + n) (sym same) (omega (arith, due_is, due_exact t.shape.tick (horizon t.shape) z n ne))
        | inr nc ↦
            let o = other scenario s h c e t d st nc in
            let before = m.exact d z n (sym o.last ∙ is) (sym (left_kept s t d (st.others_running d nc) (λ p f. st.others_thread d p nc f)) ∙ left) (λ k. ne (k ∙ sym (horizon_same s.shape t.shape st.sizes))) in
            elim o.due_is [
              | inl as_was ↦ omega (arith, as_was.1, before)
              | inr set ↦ omega (arith, set.1, set.2, before)
            ]
      ];
      soon = λ d z is. subst (λ n. due t (h ++ e ∷ []) d ≤ next_boundary n z) (sym st.sizes.tick)
          (elim (cases_eq d c) [
            | inl same ↦
                let at : e.to ≡ z = some_same e.to z (sym (last_own h e d (st.cpu ∙ sym same)) ∙ is) in
                subst (λ k. due t (h ++ e ∷ []) k ≤ next_boundary s.shape.tick z) (sym same)
                (subst (λ n. due t (h ++ e ∷ []) c ≤ next_boundary s.shape.tick n) (sym st.to ∙ at) own.1)
            | inr ne ↦
                let o = other scenario s h c e t d st ne in
                let before : due s h d ≤ next_boundary s.shape.tick z = m.soon d z (sym o.last ∙ is) in
                elim o.due_is [
                  | inl as_was ↦ subst (λ n. n ≤ next_boundary s.shape.tick z) (sym as_was.1) before
                  | inr set ↦ omega (arith, set.1, set.2, before)
                ]
          ]);
    }
  where
    nothing : (f : ℕ) → None ≡ Some f → ⊥
    nothing f k = cc

pub timely_opening : (s : SchedulerState) → ((d : ℕ) → cpu_at s d ≡ idle) → IsTimely s []
timely_opening s idle_all = record {
  ahead = λ d below. omega arith;
  behind = λ d z is. absurd cc;
  flag_now = λ d f is. absurd (nothing f (sym (ap (λ (z : CpuNow). z.flag) (idle_all d)) ∙ is));
  flag_stepped = λ d f is none. nothing f (sym (ap (λ (z : CpuNow). z.flag) (idle_all d)) ∙ is);
  flag_early = λ d f is at. nothing f (sym (ap (λ (z : CpuNow). z.flag) (idle_all d)) ∙ is);
  within = λ d z is. absurd cc;
  moment_within = omega arith;
  exact = λ d z n is left ne. absurd cc;
  soon = λ d z is. absurd cc;
}
  where
    nothing : (f : ℕ) → None ≡ Some f → ⊥
    nothing f k = cc
