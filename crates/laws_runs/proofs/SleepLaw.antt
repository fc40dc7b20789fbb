-- Below the horizon a sleeper's moment is later than the begin of the tick.
use Rattle.std.proofs.Common.{◌≡◌, ◌≢◌, ℕ, ◌+◌, ◌*◌, ◌/◌, ◌%◌, ◌<◌, ◌≤◌, List, [], ◌∷◌, ◌++◌, length, refl, sym, ◌∙◌, ap, subst, Bool, true, false, not, ◌&&◌, ◌||◌, nat_eq, nat_lt, Option, Some, None, arith, inl, inr, mul-le-mul_right}
use Rattle.std.specs.List.{list_any}
use Rattle.std.specs.Prelude.{unwrap_or}
use Rattle.laws_runs.specs.Untouched.{IsStepOf}
use Rattle.std.proofs.Math.Nat.{div-lt_iff_lt-mul, div-mul-le_self, lt-div-mul-add, mul-mod_left}
use Rattle.std.proofs.lemmas.Bool.{eqb-true}
use Rattle.std.proofs.lemmas.Bool.Decides.{nat_tests}
use Rattle.std.proofs.lemmas.List.Folds.{list_any-append}
use Rattle.aps_model.specs.declared.entry.Entry.{Entry}
use Rattle.aps_model.specs.declared.entry.Order.{Order}
use Rattle.aps_model.specs.declared.program.Op.TheVariants.{Sleep}
use Rattle.aps_model.specs.declared.state.State.{State}
use Rattle.aps_model.specs.declared.state.State.TheVariants.{Ready, Running, Sleeping}
use Rattle.aps_model.specs.declared.state.ThreadNow.{ThreadNow}
use Rattle.laws_runs.specs.Moments.{moment}
use Rattle.laws_runs.specs.Sound.{IsSound}
use Rattle.laws_runs.specs.Stamps.{IsActive}
use Rattle.laws_runs.specs.ThreadFits.{Each, SleepsOn}
use Rattle.laws_runs.proofs.Carry.{carried}
use Rattle.laws_runs.proofs.Channels.{names_channels}
use Rattle.laws_runs.proofs.EachThread.{awake_in, sleep_or_awake}
use Rattle.laws_runs.proofs.EachStep.{IsStanding, step_each}
use Rattle.laws_runs.proofs.Mid.{unflagged}
use Rattle.laws_runs.proofs.MomentLaws.{moment-append}
use Rattle.laws_runs.proofs.Programs.{op_fits}
use Rattle.laws_runs.proofs.RowsGrow.{step_rows}
use Rattle.laws_runs.proofs.Sleepers.{sleeps_beyond}
use Rattle.laws_runs.proofs.Sound.{next_of, running_on, sound_opening, sound_step, sound_step_of, tick_pos}
use Rattle.laws_runs.proofs.StepOf.{horizon_same}
use Rattle.laws_runs.proofs.ThreadFit.{start_count, started_at}
use Rattle.laws_runs.proofs.ThreadSteps.{ThreadBears}
use Rattle.aps_model.specs.After.{After, at_start, over, state_after}
use Rattle.aps_model.specs.Due.{HasTurn, due, last_end, last_to, next_boundary}
use Rattle.aps_model.specs.Legal.{IsLegal}
use Rattle.aps_model.specs.Operation.{state_in}
use Rattle.aps_model.specs.Program.{IsOp}
use Rattle.aps_model.specs.Scenario.{Scenario, op_at}
use Rattle.aps_model.specs.SchedulerState.{SchedulerState}
use Rattle.aps_model.specs.Shape.{horizon}
use Rattle.aps_model.specs.Step.{begun, step}
use Rattle.aps_model.specs.TickWork.{do_commands, has_tick_work, wake_all}
use Rattle.aps_model.specs.Valid.{IsScenario, joinable}

-- a thread that enters an operation sleeps beyond now, if it sleeps
pub sleeps_after : (scenario : Scenario) → IsScenario scenario → (x place now : ℕ) (st : State) (u : ℕ) → IsActive st → state_in (op_at scenario x place) now st ≡ Sleeping u → now < u
sleeps_after scenario r x place now st u active e = elim (sleep_or_awake (op_at scenario x place)) [
  | inl sl ↦
      let range : IsOp (length scenario.channels) (joinable scenario) (Sleep sl.0) = subst (IsOp (length scenario.channels) (joinable scenario)) sl.1 (op_fits scenario r x place) in
      let same = moment_same (now + sl.0) u (sym (ap (λ o. state_in o now st) sl.1) ∙ e) in
      omega (arith, same, range.some)
  | inr awake ↦ absurd (subst IsActive (sym (awake_in (op_at scenario x place) now st awake) ∙ e) active)
]
  where
    moment_same : (a b : ℕ) → Sleeping a ≡ Sleeping b → a ≡ b
    moment_same a b k = cc

-- ---- the tick does not pass without its work

-- no entry ends after the last one
abbrev IsLatest : List Entry → Type 0
IsLatest h = (n : ℕ) → list_any (λ (e : Entry). nat_eq e.to n) h ≡ true → n ≤ moment h

latest_more : (h : List Entry) (e : Entry) → moment h ≤ e.to → IsLatest h → IsLatest (h ++ e ∷ [])
latest_more h e rises m n any = by_test (list_any (λ (x : Entry). nat_eq x.to n) h) (nat_eq e.to n) refl refl (sym (list_any-append (λ (x : Entry). nat_eq x.to n) h (e ∷ [])) ∙ any)
  where
    by_test : (t v : Bool) → list_any (λ (x : Entry). nat_eq x.to n) h ≡ t → nat_eq e.to n ≡ v → (t || (v || false)) ≡ true → n ≤ moment (h ++ e ∷ [])
    by_test true v is at k = let l = m n is in omega (arith, l, rises, moment-append h e)
    by_test false true is at k = omega (arith, eqb-true e.to n at, moment-append h e)
    by_test false false is at k = absurd cc

-- where there is no work to do below the horizon, the moment lies in the tick of the last one
same_tick : (tick now last past end : ℕ) (any : Bool) → 0 < tick → now < end → last ≤ past → past ≤ now → now ≤ next_boundary tick last → (any ≡ true → now ≤ past)
    → (nat_eq (now % tick) 0 && nat_lt now end && not any) ≡ false → now / tick * tick ≤ past / tick * tick
same_tick tick now last past end true pos below l p short any none = let n = any refl in let same : now ≡ past = omega arith in subst (λ k. now / tick * tick ≤ k / tick * tick) same (omega arith)
same_tick tick now last past end false pos below l p short any none = by_test (nat_eq (now % tick) 0) (nat_lt now end) refl early none
  where
    early : nat_lt now end ≡ true
    early = grind (arith, nat_tests)

    on_boundary : now ≡ next_boundary tick last → nat_eq (now % tick) 0 ≡ true
    on_boundary e = ap (λ k. nat_eq (k % tick) 0) e ∙ ap (λ k. nat_eq k 0) (mul-mod_left (last / tick + 1) tick)

    clash : ◌≡◌ {A = Bool} true false → ⊥
    clash k = cc

    by_test : (t v : Bool) → nat_eq (now % tick) 0 ≡ t → v ≡ true → (t && v && true) ≡ false → now / tick * tick ≤ past / tick * tick
    by_test true true is at k = absurd cc
    by_test true false is at k = absurd cc
    by_test false v is at k =
        let off : now ≢ next_boundary tick last = λ e. clash (sym (on_boundary e) ∙ is) in
        let inside : now < (last / tick + 1) * tick = omega (arith, off) in
        let far : past < past / tick * tick + tick = lt-div-mul-add pos in
        let mono : last / tick < past / tick + 1 = (div-lt_iff_lt-mul pos).1 (omega (arith, far, l)) in
        let low : now / tick < last / tick + 1 = (div-lt_iff_lt-mul pos).1 inside in
        mul-le-mul_right tick (omega arith)

-- ---- through a step

-- in the midst of a step before the horizon: who sleeps sleeps beyond the begin of its tick
abbrev IsBeyond : ℕ → ℕ → ℕ → ThreadNow → Type 0
IsBeyond now tick end t = now < end → (u : ℕ) → t.state ≡ Sleeping u → now / tick * tick < u

awake_beyond : (now tick end : ℕ) (t : ThreadNow) → ((u : ℕ) → t.state ≢ Sleeping u) → IsBeyond now tick end t
awake_beyond now tick end t awake early u e = absurd (awake u e)

moves : (scenario : Scenario) → IsScenario scenario → (now c x rows tick end : ℕ) → ThreadBears scenario now c x rows (λ y t. IsBeyond now tick end t) (λ y t. Unit {0})
moves scenario r now c x rows tick end =
    let begin : now / tick * tick ≤ now = div-mul-le_self now tick in
    record {
      going = record {
        readies = λ shape y n t call m may awake early v z. absurd cc;
        sleeps = λ y ns t m may is early u e. let l = sleeps_after scenario r y (t.place + 1) now Ready u tt (ap (λ o. state_in o now Ready) is ∙ e) in omega (arith, l, begin);
      };
      delivered = λ y d t m st early v z. absurd cc;
      marked = λ on t m. tt;
      stamped = λ n t m. tt;
      prioritized = λ n t m is. tt;
      joins = λ p t m below. tt;
      stays = λ t m run some. awake_beyond now tick end t (λ u e. asleep u (sym run ∙ e));
      enters = λ shape op t call m run left is no_exit early u e. let l = sleeps_after scenario r x _ now (Running c) u tt e in omega (arith, l, begin);
      sends = λ d t m is early v z. absurd cc;
      waits = λ d k t m is early v z. absurd cc;
      receives = λ d t m is early v z. absurd cc;
      leaves = λ t m is early v z. absurd cc;
      back = λ t m run early v z. absurd cc;
      back_stamped = λ n t m run early v z. absurd cc;
    }
  where
    asleep : (u : ℕ) → Running c ≡ Sleeping u → ⊥
    asleep u e = cc

-- each sleeper in the midst of a step
abbrev AllBeyond : Scenario → ℕ → SchedulerState → Type 0
AllBeyond scenario now s = Each (λ y t. IsBeyond now scenario.shape.tick (horizon scenario.shape) t) s.threads

-- each sleeper after a history
abbrev AllSleep : Scenario → SchedulerState → List Entry → Type 0
AllSleep scenario s h = Each (λ y t. SleepsOn scenario h t) s.threads

begun_beyond : (scenario : Scenario) → IsScenario scenario → (s : SchedulerState) (h : List Entry) (c now : ℕ) → s.shape.tick ≡ scenario.shape.tick → horizon s.shape ≡ horizon scenario.shape
    → (now < horizon scenario.shape → has_tick_work (unflagged s c) h now ≡ false → now / scenario.shape.tick * scenario.shape.tick ≤ moment h / scenario.shape.tick * scenario.shape.tick) → moment h ≤ now
    → AllSleep scenario s h → Each (λ y t. IsBeyond now scenario.shape.tick (horizon scenario.shape) t) (begun scenario s h c now).threads
begun_beyond scenario r s h c now tick end same rises m = by_test (has_tick_work (unflagged s c) h now) refl
  where
    by_test : (t : Bool) → has_tick_work (unflagged s c) h now ≡ t → AllBeyond scenario now (elim t [
      | true ↦ wake_all scenario now (do_commands scenario h (now / s.shape.tick) (unflagged s c))
      | false ↦ unflagged s c
    ])
    by_test true is y below early u e =
        let l = sleeps_beyond scenario r now (do_commands scenario h (now / s.shape.tick) (unflagged s c)) y u below e in
        let begin : now / scenario.shape.tick * scenario.shape.tick ≤ now = div-mul-le_self now scenario.shape.tick in
        omega (arith, l, begin)
    by_test false is y below early u e =
        let old = m y below (omega (arith, early, rises)) u e in
        let l = same early is in
        omega (arith, old, l)

sleep_step : (scenario : Scenario) (order : Order) (a : After) (h : List Entry) (c : ℕ) → IsScenario scenario → IsSound scenario a.state h → over a h ≡ None → HasTurn order a.state h c → IsLatest h
    → AllSleep scenario a.state h → AllSleep scenario (step scenario a.state h c).state (h ++ (step scenario a.state h c).entry ∷ []) × IsLatest (h ++ (step scenario a.state h c).entry ∷ [])
sleep_step scenario order a h c r m over turn latest sleeps =
    let s = a.state in
    let run = running_on a h over in
    let e = (step scenario s h c).entry in
    let now = due s h c in
    let tick = scenario.shape.tick in
    let end = horizon scenario.shape in
    let st = sound_step_of scenario order s h c r m turn in
    let pos = tick_pos scenario s r m.grounded.sizes in
    let here : HasTurn order s h e.cpu = subst (HasTurn order s h) (sym st.cpu) turn in
    let next = next_of scenario order s h e (step scenario s h c).state pos m.grounded.cpu_count m.timely run.early here (subst (λ k. IsStepOf scenario s h k e (step scenario s h c).state) (sym st.cpu) st) in
    let to : e.to ≡ now = st.to in
    let rises = next.rises in
    let at : moment (h ++ e ∷ []) ≡ now = moment-append h e ∙ to in
    let stand : IsStanding scenario s c = record { names = names_channels scenario r; plain = m.grounded.plain; kept = m.grounded.kept; call = m.grounded.sizes.call_ns } in
    let end_same = horizon_same scenario.shape s.shape m.grounded.sizes in
    let tick_same = m.grounded.sizes.tick in
    let from_past : last_end h c ≤ moment h = by_last s h c m (last_to h c) refl in
    let short : now ≤ next_boundary tick (last_end h c) = subst (λ k. k ≤ next_boundary tick (last_end h c)) to (subst (λ k. e.to ≤ next_boundary tick k) st.from (subst (λ k. e.to ≤ next_boundary k e.from) tick_same next.short)) in
    let begun' = begun_beyond scenario r s h c now tick_same end_same
    (λ early none.
    same_tick tick now (last_end h c) (moment h) end (list_any (λ (x : Entry). nat_eq x.to now) h) (subst (λ k. 0 < k) tick_same pos) early from_past (omega (arith, rises, to)) short (λ any. latest now any)
    (subst (λ k. (nat_eq (now % tick) 0 && nat_lt now k && not (list_any (λ (x : Entry). nat_eq x.to now) h)) ≡ false) end_same (subst (λ k. (nat_eq (now % k) 0 && nat_lt now (horizon s.shape) && not (list_any (λ (x : Entry). nat_eq x.to now) h)) ≡ false) tick_same none)))
    (omega (arith, rises, to)) sleeps in
    let rows = length (step scenario s h c).state.rows in
    let grow = step_rows scenario s h c stand in (
      λ y below early u is.
          let each = step_each scenario s h c rows (λ y t. IsBeyond now tick end t) (λ y t. IsBeyond now tick end t) (λ y t. Unit {0}) (λ o y t. IsBeyond now tick end t)
          (record { moves = λ x. moves scenario r now c x rows tick end; calms = λ x t k. k; spends = λ x t k is. tt })
          (record {
            ends = λ o y t why k off. k;
            ends_own = λ o y t why k on. awake_beyond now tick end t (λ v z. asleep c v (sym on ∙ z));
            rests = λ y t ne k off. k;
            picks = λ y t ne k ready early v z. absurd cc;
          }) stand (omega (arith, grow)) begun' in
          subst (λ k. k / tick * tick < u) (sym at) (each y below (subst (λ k. k < end) at early) u is),
      latest_more h e rises latest,
    )
  where
    asleep : (c u : ℕ) → Running c ≡ Sleeping u → ⊥
    asleep c u e = cc

    by_last : (s : SchedulerState) (h : List Entry) (c : ℕ) → IsSound scenario s h → (last : Option ℕ) → last_to h c ≡ last → last_end h c ≤ moment h
    by_last s h c m None is = omega (arith, ap (λ o. unwrap_or o 0) is)
    by_last s h c m (Some z) is = let b = m.timely.behind c z is in omega (arith, ap (λ o. unwrap_or o 0) is, b)

sleep_opening : (scenario : Scenario) → IsScenario scenario → AllSleep scenario (at_start scenario).state []
sleep_opening scenario r y below =
    let inside : y < length scenario.threads = subst (λ n. y < n) (start_count scenario.shape scenario.threads 0 0) below in
    started_at scenario.shape (λ t. SleepsOn scenario [] t) scenario.threads 0 0 y inside (λ n k early u e.
    let l = sleeps_after scenario r y 0 0 Ready u tt e in
    let begin : 0 / scenario.shape.tick * scenario.shape.tick ≤ 0 = div-mul-le_self 0 scenario.shape.tick in
    omega (arith, l, begin))

pub sleep_law : (scenario : Scenario) (order : Order) (h : List Entry) → IsScenario scenario → IsLegal scenario order h → AllSleep scenario (state_after scenario h) h
sleep_law scenario order h r legal =
    (carried scenario order (λ h a. IsSound scenario a.state h × AllSleep scenario a.state h × IsLatest h) (sound_opening scenario, sleep_opening scenario r, λ n any. absurd cc)
    (λ h a c m run turn. let both = sleep_step scenario order a h c r m.0 run turn m.2 m.1 in (sound_step scenario order a.state h c r m.0 (running_on a h run).early turn, both.0, both.1)) h legal).1
