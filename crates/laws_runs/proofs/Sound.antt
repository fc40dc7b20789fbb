-- What each step keeps holds of each legal history.
use Rattle.std.proofs.Common.{◌≡◌, ℕ, ◌+◌, ◌<◌, ◌≤◌, List, [], ◌∷◌, ◌++◌, length, refl, sym, ◌∙◌, ap, subst, append_assoc, Bool, true, false, Option, Some, None, arith}
use Rattle.std.specs.Prelude.{unwrap_or}
use Rattle.std.proofs.lemmas.List.{append-nil}
use Rattle.aps_model.specs.declared.entry.Entry.{Entry}
use Rattle.aps_model.specs.declared.entry.Order.{Order}
use Rattle.laws_runs.specs.Untouched.{IsStepOf, IsPickSaid}
use Rattle.laws_runs.specs.Moments.{IsTimely}
use Rattle.laws_runs.specs.Sound.{IsSound, IsNext}
use Rattle.laws_runs.proofs.Carry.{carried}
use Rattle.laws_runs.proofs.Opening.{opening_grounded, idle_opening}
use Rattle.laws_runs.specs.Sizes.{IsSameSizes}
use Rattle.laws_runs.proofs.Mid.{sizes_trans}
use Rattle.laws_runs.proofs.Channels.{names_channels}
use Rattle.laws_runs.proofs.StepOf.{step_of}
use Rattle.laws_runs.proofs.PickSays.{pick_says}
use Rattle.laws_runs.proofs.MomentLaws.{timely_step, timely_opening, turn_early, due_within, flag_due, flag_below, first_is_due}
use Rattle.aps_model.specs.After.{After, after, after_from, at_start, is_at_horizon, left_by, over, over_by, state_after}
use Rattle.aps_model.specs.Due.{HasTurn, due, last_to, left_running, next_boundary}
use Rattle.aps_model.specs.Legal.{IsLegal, LegalFrom}
use Rattle.aps_model.specs.Opening.{opening}
use Rattle.aps_model.specs.Scenario.{Scenario}
use Rattle.aps_model.specs.SchedulerState.{SchedulerState, cpu_at}
use Rattle.aps_model.specs.Step.{step}
use Rattle.aps_model.specs.Valid.{IsScenario}
use Rattle.aps_model.proofs.AfterLaws.{after-append}

-- a run that isn't over: nobody ended it, and not all stand at the horizon
pub record IsRunning (a : After) (h : List Entry) : Type 0 where
  pub calm : a.reboot ≡ None
  pub early : is_at_horizon a.state h ≡ false

pub running_on : (a : After) (h : List Entry) → over a h ≡ None → IsRunning a h
running_on a h e = by_parts a.reboot (is_at_horizon a.state h) refl refl e
  where
    by_parts : (o : Option ℕ) (t : Bool) → a.reboot ≡ o → is_at_horizon a.state h ≡ t → over_by o t ≡ None → IsRunning a h
    by_parts (Some p) t f g k = absurd cc
    by_parts None true f g k = absurd cc
    by_parts None false f g k = record { calm = f; early = g }

-- a legal history with its last entry: it was legal before, and that was the step of who had the turn
pub record IsLast (scenario : Scenario) (order : Order) (a : After) (h : List Entry) (e : Entry) : Type 0 where
  pub running : over a h ≡ None
  pub turn : HasTurn order a.state h e.cpu
  pub same : e ≡ (step scenario a.state h e.cpu).entry

last_from : (scenario : Scenario) (order : Order) (a : After) (h es : List Entry) (e : Entry) → LegalFrom scenario order a h (es ++ e ∷ [])
    → LegalFrom scenario order a h es × IsLast scenario order (after_from scenario a h es) (h ++ es) e
last_from scenario order a h [] e legal =
    (tt, subst (λ g. IsLast scenario order a g e) (sym (append-nil h)) (record { running = legal.0; turn = legal.1; same = legal.2 }))
last_from scenario order a h (x ∷ es) e legal =
    let t = left_by (step scenario a.state h x.cpu) in
    let rest = last_from scenario order t (h ++ x ∷ []) es e legal.3 in
    ((legal.0, legal.1, legal.2, rest.0), subst (λ g. IsLast scenario order (after_from scenario t (h ++ x ∷ []) es) g e) (append_assoc h (x ∷ []) es) rest.1)

pub legal_last : (scenario : Scenario) (order : Order) (h : List Entry) (e : Entry) → IsLegal scenario order (h ++ e ∷ []) → IsLegal scenario order h × IsLast scenario order (after scenario h) h e
unfolding after IsLegal
legal_last scenario order h e legal = last_from scenario order (at_start scenario) [] h e legal

pub tick_pos : (scenario : Scenario) (s : SchedulerState) → IsScenario scenario → IsSameSizes scenario.shape s.shape → 0 < s.shape.tick
tick_pos scenario s r e = let l = r.shape.tick_long in omega (arith, l, e.tick)

pub sound_step_of : (scenario : Scenario) (order : Order) (s : SchedulerState) (h : List Entry) (c : ℕ) → IsScenario scenario → IsSound scenario s h → HasTurn order s h c
    → IsStepOf scenario s h c (step scenario s h c).entry (step scenario s h c).state
sound_step_of scenario order s h c r m turn = step_of scenario s h c (names_channels scenario r) m.grounded.plain m.grounded.kept (subst (λ n. c < n) (sym m.grounded.cpu_count) turn.exists)

pub sound_step : (scenario : Scenario) (order : Order) (s : SchedulerState) (h : List Entry) (c : ℕ) → IsScenario scenario → IsSound scenario s h → is_at_horizon s h ≡ false → HasTurn order s h c
    → IsSound scenario (step scenario s h c).state (h ++ (step scenario s h c).entry ∷ [])
sound_step scenario order s h c r m over turn =
    let st = sound_step_of scenario order s h c r m turn in
    record {
      grounded = record {
        plain = st.plain;
        kept = st.kept;
        sizes = sizes_trans m.grounded.sizes st.sizes;
        cpu_count = st.cpu_count ∙ m.grounded.cpu_count ∙ sym st.sizes.cpus;
      };
      timely = timely_step scenario order s h c _ _ (tick_pos scenario s r m.grounded.sizes) m.grounded.cpu_count over turn m.timely st;
    }

pub sound_opening : (scenario : Scenario) → IsSound scenario (opening scenario) []
sound_opening scenario = record { grounded = opening_grounded scenario; timely = timely_opening (opening scenario) (idle_opening scenario) }

pub sound : (scenario : Scenario) (order : Order) → IsScenario scenario → (h : List Entry) → IsLegal scenario order h → IsSound scenario (state_after scenario h) h
sound scenario order r =
    carried scenario order (λ h a. IsSound scenario a.state h) (sound_opening scenario) (λ h a c m run turn. sound_step scenario order a.state h c r m (running_on a h run).early turn)

-- ---- the laws of the next entry

pub step_law : (scenario : Scenario) (order : Order) (h : List Entry) (e : Entry) → IsScenario scenario → IsLegal scenario order (h ++ e ∷ [])
    → IsStepOf scenario (state_after scenario h) h e.cpu e (state_after scenario (h ++ e ∷ []))
step_law scenario order h e r legal =
    let last = legal_last scenario order h e legal in
    let m = sound scenario order r h last.0 in
    let st = sound_step_of scenario order (state_after scenario h) h e.cpu r m last.1.turn in
    subst (λ t. IsStepOf scenario (state_after scenario h) h e.cpu e t) (sym (ap (λ (a : After). a.state) (after-append scenario h e)))
    (subst (λ x. IsStepOf scenario (state_after scenario h) h e.cpu x (step scenario (state_after scenario h) h e.cpu).state) (sym last.1.same) st)

pub next_of : (scenario : Scenario) (order : Order) (s : SchedulerState) (h : List Entry) (e : Entry) (t : SchedulerState) → 0 < s.shape.tick → length s.cpus ≡ s.shape.cpus → IsTimely s h → is_at_horizon s h ≡ false → HasTurn order s h e.cpu
    → IsStepOf scenario s h e.cpu e t → IsNext s h e
next_of scenario order s h e t pos cpus m over turn st = record {
  rises = omega (arith, st.to, m.ahead e.cpu turn.exists);
  first = λ d below. omega (arith, st.to, turn.least d below);
  after_ends = λ d z is. omega (arith, st.to, m.ahead e.cpu turn.exists, m.behind d z is);
  served = λ d f is.
      let due_f : due s h d ≡ f =
      flag_due s h d f is (m.flag_stepped d f is) in
      omega (arith, st.to, due_f, turn.least d (subst (λ n. d < n) cpus (flag_below s d f is)), m.ahead e.cpu turn.exists, m.flag_now d f is);
  forward = (by_last (last_to h e.cpu) refl).0;
  short = (by_last (last_to h e.cpu) refl).1;
  within = omega (arith, st.to, due_within order s h e.cpu pos m over turn);
  exact = λ n stepped left. by_end (last_to h e.cpu) n refl stepped left;
  joins = st.from;
  opens = λ none. st.to ∙ first_is_due s h e.cpu none;
  not_over = λ z is. turn_early order s h e.cpu z pos m over turn is;
}
  where
    by_end : (last : Option ℕ) (n : ℕ) → last_to h e.cpu ≡ last → (last_to h e.cpu ≡ None → ⊥) → left_running s (cpu_at s e.cpu).running ≡ Some n → e.to ≤ e.from + n
    by_end None n is stepped left = absurd (stepped is)
    by_end (Some z) n is stepped left =
        let from : e.from ≡ z = st.from ∙ ap (λ k. unwrap_or k 0) is in
        let early = turn_early order s h e.cpu z pos m over turn is in
        omega (arith, st.to, from, m.exact e.cpu z n is left (λ k. omega (arith, k, early)))

    by_last : (last : Option ℕ) → last_to h e.cpu ≡ last → (e.from ≤ e.to) × (e.to ≤ next_boundary s.shape.tick e.from)
    by_last None is =
        let from : e.from ≡ 0 = st.from ∙ ap (λ k. unwrap_or k 0) is in
        let to : e.to ≡ 0 = st.to ∙ first_is_due s h e.cpu is in
        (omega arith, omega arith)
    by_last (Some z) is =
        let from : e.from ≡ z = st.from ∙ ap (λ k. unwrap_or k 0) is in
        let a = m.ahead e.cpu turn.exists in
        let b = m.behind e.cpu z is in
        let n = m.soon e.cpu z is in
        (omega (arith, st.to), subst (λ k. e.to ≤ next_boundary s.shape.tick k) (sym from) (omega (arith, st.to)))

pub next_law : (scenario : Scenario) (order : Order) (h : List Entry) (e : Entry) → IsScenario scenario → IsLegal scenario order (h ++ e ∷ []) → IsNext (state_after scenario h) h e
next_law scenario order h e r legal =
    let last = legal_last scenario order h e legal in
    let m = sound scenario order r h last.0 in
    next_of scenario order (state_after scenario h) h e (state_after scenario (h ++ e ∷ [])) (tick_pos scenario (state_after scenario h) r m.grounded.sizes) m.grounded.cpu_count m.timely (running_on (after scenario h) h last.1.running).early last.1.turn (step_law scenario order h e r legal)

pub pick_law : (scenario : Scenario) (order : Order) (h : List Entry) (e : Entry) → IsScenario scenario → IsLegal scenario order (h ++ e ∷ []) → IsPickSaid (state_after scenario h) h e.cpu e (state_after scenario (h ++ e ∷ [])) (after scenario (h ++ e ∷ [])).reboot
pick_law scenario order h e r legal =
    let last = legal_last scenario order h e legal in
    let m = sound scenario order r h last.0 in
    let s = state_after scenario h in
    let said = pick_says scenario s h e.cpu (names_channels scenario r) m.grounded.plain m.grounded.kept (subst (λ n. e.cpu < n) (sym m.grounded.cpu_count) last.1.turn.exists) in
    subst (λ (a : After). IsPickSaid s h e.cpu e a.state a.reboot) (sym (after-append scenario h e))
    (subst (λ (x : Entry). IsPickSaid s h e.cpu x (step scenario s h e.cpu).state (step scenario s h e.cpu).reboot) (sym last.1.same) said)
