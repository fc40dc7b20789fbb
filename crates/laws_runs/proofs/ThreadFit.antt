-- Each thread fits its program, and has time left, in each legal history.
use Rattle.std.proofs.Common.{◌≡◌, ◌≢◌, ℕ, zero, suc, ◌+◌, ◌-◌, ◌*◌, ◌<◌, ◌≤◌, List, [], ◌∷◌, ◌++◌, length, refl, sym, ◌∙◌, ap, subst, Bool, false, Option, Some, None, slice_index_or, arith, inl, inr, mul-le-mul_right}
use Rattle.std.specs.Prelude.{unwrap_or}
use Rattle.std.specs.Option.{option_map}
use Rattle.aps_model.specs.declared.entry.Entry.{Entry}
use Rattle.aps_model.specs.declared.entry.Order.{Order}
use Rattle.aps_model.specs.declared.program.Op.{Op}
use Rattle.aps_model.specs.declared.program.Op.TheVariants.{Sleep, Priority}
use Rattle.aps_model.specs.declared.scenario.ThreadRow.{ThreadRow}
use Rattle.aps_model.specs.declared.shape.Shape.{Shape}
use Rattle.aps_model.specs.declared.state.State.{State}
use Rattle.aps_model.specs.declared.state.State.TheVariants.{Ready, Running, Sleeping, Sending, Receiving, Replying, Gone}
use Rattle.aps_model.specs.declared.state.ThreadNow.{ThreadNow}
use Rattle.aps_model.specs.Limits.{last_moment, most_ticks}
use Rattle.laws_runs.specs.Moments.{moment}
use Rattle.laws_runs.specs.Sound.{IsSound}
use Rattle.laws_runs.specs.ThreadFits.{Each, IsAwake, IsThreadFit, IsThreadTimed, StandsAt}
use Rattle.laws_runs.specs.Untouched.{IsStepOf}
use Rattle.laws_runs.proofs.Carry.{carried}
use Rattle.laws_runs.proofs.Channels.{names_channels}
use Rattle.laws_runs.proofs.EachThread.{GoesOn, MayGoOn, awake_in, sleep_or_awake}
use Rattle.laws_runs.proofs.EachStep.{IsStanding, StepBears, StepLeaves, spent_at, spent_of, step_each}
use Rattle.laws_runs.proofs.Mid.{unflagged}
use Rattle.laws_runs.proofs.MomentLaws.{due_within, last_other, last_own, moment-append, turn_early}
use Rattle.laws_runs.proofs.Opening.{IsFirst, first_in}
use Rattle.laws_runs.proofs.StepOf.{bill_says, horizon_same}
use Rattle.laws_runs.proofs.Programs.{IsCallTime, after_fits, first_fits, fit_of, next_fits, op_fits, row_fits, some_left}
use Rattle.laws_runs.proofs.RowsGrow.{rows_begun, step_rows}
use Rattle.laws_runs.proofs.Sound.{running_on, sound_opening, sound_step, sound_step_of, tick_pos}
use Rattle.laws_runs.proofs.ThreadSteps.{ThreadBears, tick_each}
use Rattle.aps_model.specs.After.{After, after, at_start, is_at_horizon, left_by, over}
use Rattle.aps_model.specs.Due.{HasTurn, due, last_end, last_to}
use Rattle.aps_model.specs.Legal.{IsLegal}
use Rattle.aps_model.specs.Opening.{first_op, first_state, stamp_after, start_threads, started}
use Rattle.aps_model.specs.Operation.{duration, enter, place_after, state_in}
use Rattle.aps_model.specs.Program.{IsOp, is_last_op}
use Rattle.aps_model.specs.Scenario.{Scenario, no_thread_row, op_at, thread_row}
use Rattle.aps_model.specs.SchedulerState.{SchedulerState, cpu_at, no_thread, thread_at}
use Rattle.aps_model.specs.Shape.{horizon}
use Rattle.aps_model.specs.Step.{begun, step}
use Rattle.aps_model.specs.Valid.{IsScenario, joinable}

pub call_time : (scenario : Scenario) → IsScenario scenario → (shape : Shape) → shape.call_ns ≡ scenario.shape.call_ns → IsCallTime shape
call_time scenario r shape call = let a = r.shape.some_call in let b = r.shape.short_call in record { some = omega (arith, a, call); short = omega (arith, b, call) }

-- ---- what is told of a thread in the midst of a step

-- the step's numbers: its moment is small, and its processor is not at the horizon yet
pub record IsMoving (scenario : Scenario) (s : SchedulerState) (h : List Entry) (c : ℕ) : Type 0 where
  pub valid : IsScenario scenario
  pub small : due s h c ≤ last_moment
  pub early : last_to h c ≢ Some (horizon scenario.shape)
  pub forward : last_end h c + spent_at s h c ≤ due s h c

pub record IsInStep (scenario : Scenario) (h : List Entry) (now c rows y : ℕ) (t : ThreadNow) : Type 0 where
  pub fit : IsThreadFit scenario rows y t
  pub ready : t.state ≡ Ready → t.left ≢ Some 0
  pub running : (d : ℕ) → t.state ≡ Running d → last_to h d ≢ Some (horizon scenario.shape) → t.left ≢ Some 0
  pub since : t.since ≤ now
  pub since_running : (d : ℕ) → d ≢ c → t.state ≡ Running d → t.since ≤ last_end h d

pub record IsBeforeBill (scenario : Scenario) (h : List Entry) (now c rows y : ℕ) (t : ThreadNow) : Type 0 where
  pub in_step : IsInStep scenario h now c rows y t
  pub own : t.state ≡ Running c → t.since ≤ last_end h c

pub record IsSpent (scenario : Scenario) (now rows y : ℕ) (t : ThreadNow) : Type 0 where
  pub fit : IsThreadFit scenario rows y t
  pub since : t.since ≤ now

-- fit is a fact of place, state, time left and own values alone
fit_stamp : (scenario : Scenario) (rows y n since : ℕ) (t : ThreadNow) → IsThreadFit scenario rows y t → IsThreadFit scenario rows y (record t { stamp = n; since = since })
fit_stamp scenario rows y n since t f = record { place = f.place; stands = f.stands; endless = f.endless; forever = f.forever; left_small = f.left_small; wakes_soon = f.wakes_soon; priority = f.priority; partition = f.partition }

-- in another state at the same operation
fit_state : (scenario : Scenario) (rows y : ℕ) (st : State) (t : ThreadNow) → IsThreadFit scenario rows y t → StandsAt st (op_at scenario y t.place) → ((u : ℕ) → st ≢ Sleeping u) → IsThreadFit scenario rows y (record t { state = st })
fit_state scenario rows y st t f stands awake = record { place = f.place; stands = stands; endless = f.endless; forever = f.forever; left_small = f.left_small; wakes_soon = λ u e. absurd (awake u e); priority = f.priority; partition = f.partition }

-- no last operation has a thread that may go on
goes_further : (scenario : Scenario) (y place : ℕ) (st : State) → MayGoOn st → StandsAt st (op_at scenario y place) → is_last_op (op_at scenario y place) ≡ false
goes_further scenario y place (Sleeping until) may stands = ap is_last_op stands.1
goes_further scenario y place (Receiving d) may stands = ap is_last_op stands
goes_further scenario y place (Replying x) may stands = ap is_last_op stands.1
goes_further scenario y place Ready may stands = absurd may
goes_further scenario y place (Running c) may stands = absurd may
goes_further scenario y place (Sending d) may stands = absurd may
goes_further scenario y place Gone may stands = absurd may

fit_readies : (scenario : Scenario) → IsScenario scenario → (shape : Shape) (rows y n now : ℕ) (t : ThreadNow) → shape.call_ns ≡ scenario.shape.call_ns → now ≤ last_moment → IsThreadFit scenario rows y t → MayGoOn t.state
    → IsAwake (op_at scenario y (t.place + 1)) → IsThreadFit scenario rows y (record t { place = t.place + 1; left = duration shape (op_at scenario y (t.place + 1)); state = Ready; stamp = n; since = 0 })
fit_readies scenario r shape rows y n now t call small f may awake =
    fit_of scenario r shape (call_time scenario r shape call) rows y now Ready (record t { place = t.place + 1; left = duration shape (op_at scenario y (t.place + 1)); state = Ready; stamp = n; since = 0 }) tt small
    (next_fits scenario r y t.place f.place (goes_further scenario y t.place t.state may f.stands)) refl (sym (awake_in (op_at scenario y (t.place + 1)) now Ready awake)) f.priority f.partition

fit_sleeps : (scenario : Scenario) → IsScenario scenario → (rows y ns now : ℕ) (t : ThreadNow) → now ≤ last_moment → IsThreadFit scenario rows y t → MayGoOn t.state
    → op_at scenario y (t.place + 1) ≡ Sleep ns → IsThreadFit scenario rows y (record t { place = t.place + 1; left = Some 0; state = Sleeping (now + ns) })
fit_sleeps scenario r rows y ns now t small f may is =
    fit_of scenario r scenario.shape (call_time scenario r scenario.shape refl) rows y now Ready (record t { place = t.place + 1; left = Some 0; state = Sleeping (now + ns) }) tt small
    (next_fits scenario r y t.place f.place (goes_further scenario y t.place t.state may f.stands))
    (ap (duration scenario.shape) (sym is)) (ap (λ o. state_in o now Ready) (sym is)) f.priority f.partition

fit_marked : (scenario : Scenario) (rows y : ℕ) (on : Bool) (t : ThreadNow) → IsThreadFit scenario rows y t → IsThreadFit scenario rows y (record t { own = record t.own { critical = on } })
fit_marked scenario rows y on t f = record { place = f.place; stands = f.stands; endless = f.endless; forever = f.forever; left_small = f.left_small; wakes_soon = f.wakes_soon; priority = f.priority; partition = f.partition }

-- the bill takes time off, but none where there is no end
fit_spent : (scenario : Scenario) (rows y ns : ℕ) (t : ThreadNow) → IsThreadFit scenario rows y t → IsThreadFit scenario rows y (spent_of ns t)
fit_spent scenario rows y ns t f = record {
  place = f.place;
  stands = f.stands;
  endless = λ e. f.endless (none t.left e);
  forever = λ e. ap (option_map (λ (left : ℕ). left - ns)) (f.forever e);
  left_small = λ n e. less t.left f.left_small n e;
  wakes_soon = f.wakes_soon;
  priority = f.priority;
  partition = f.partition;
}
  where
    none : (o : Option ℕ) → option_map (λ (left : ℕ). left - ns) o ≡ None → o ≡ None
    none None e = refl
    none (Some n) e = absurd cc

    some_same : (a b : ℕ) → Some a ≡ Some b → a ≡ b
    some_same a b e = cc

    less : (o : Option ℕ) → ((n : ℕ) → o ≡ Some n → n ≤ last_moment) → (n : ℕ) → option_map (λ (left : ℕ). left - ns) o ≡ Some n → n ≤ last_moment
    less None f n e = absurd cc
    less (Some m) f n e = let l = f m refl in let same = some_same (m - ns) n e in omega (arith, l, same)

-- ---- the moves

-- fitting alone is borne by each move, at a moment of the run
pub fits_go_on : (scenario : Scenario) → IsScenario scenario → (now rows : ℕ) → now ≤ last_moment → GoesOn scenario now (IsThreadFit scenario rows)
fits_go_on scenario r now rows small = record {
  readies = λ shape y n t call f may awake. fit_readies scenario r shape rows y n now t call small f may awake;
  sleeps = λ y ns t f may is. fit_sleeps scenario r rows y ns now t small f may is;
}

pub fits_bear : (scenario : Scenario) → IsScenario scenario → (now c x rows : ℕ) → now ≤ last_moment → ThreadBears scenario now c x rows (IsThreadFit scenario rows) (IsThreadFit scenario rows)
fits_bear scenario r now c x rows small = record {
  going = fits_go_on scenario r now rows small;
  delivered = λ y d t f st. fit_state scenario rows y (Replying x) t f (d, at y t (Sending d) st f.stands) (λ u e. cc);
  marked = λ on t f. fit_marked scenario rows x on t f;
  stamped = λ n t f. fit_stamp scenario rows x n 0 t f;
  prioritized = λ n t f is.
      let range : IsOp (length scenario.channels) (joinable scenario) (Priority n) = subst (IsOp (length scenario.channels) (joinable scenario)) is (op_fits scenario r x t.place) in
      record { place = f.place; stands = f.stands; endless = f.endless; forever = f.forever; left_small = f.left_small; wakes_soon = f.wakes_soon; priority = range; partition = f.partition };
  joins = λ p t f below. record { place = f.place; stands = f.stands; endless = f.endless; forever = f.forever; left_small = f.left_small; wakes_soon = f.wakes_soon; priority = f.priority; partition = below };
  stays = λ t f run some. f;
  enters = λ shape op t call f run left is no_exit.
      let place = place_after op t.place in
      let inside = after_fits scenario r x t.place op f.place is no_exit (λ e. ended (sym left ∙ f.forever (is ∙ e))) in
      fit_of scenario r shape (call_time scenario r shape call) rows x now (Running c) (enter scenario shape x place now (Running c) t) tt small inside refl refl f.priority f.partition;
  sends = λ d t f is. fit_state scenario rows x (Sending d) t f is (λ u e. cc);
  waits = λ d k t f is. fit_state scenario rows x (Replying k) t f (d, is) (λ u e. cc);
  receives = λ d t f is. fit_state scenario rows x (Receiving d) t f is (λ u e. cc);
  leaves = λ t f is. fit_state scenario rows x Gone t f is (λ u e. cc);
  back = λ t f run. fit_state scenario rows x Ready t f (at x t (Running c) run f.stands) (λ u e. cc);
  back_stamped = λ n t f run. fit_stamp scenario rows x n 0 (record t { state = Ready }) (fit_state scenario rows x Ready t f (at x t (Running c) run f.stands) (λ u e. cc));
}
  where
    ended : ◌≡◌ {A = Option ℕ} (Some 0) None → ⊥
    ended e = cc

    at : (y : ℕ) (t : ThreadNow) (st : State) → t.state ≡ st → StandsAt t.state (op_at scenario y t.place) → StandsAt st (op_at scenario y t.place)
    at y t st is stands = subst (λ z. StandsAt z (op_at scenario y t.place)) is stands

going : (scenario : Scenario) (s : SchedulerState) (h : List Entry) (c rows : ℕ) → IsMoving scenario s h c → GoesOn scenario (due s h c) (IsInStep scenario h (due s h c) c rows)
going scenario s h c rows v =
    let f = fits_go_on scenario v.valid (due s h c) rows v.small in
    record {
      readies = λ shape y n t call m may awake. record {
        fit = f.readies shape y n t call m.fit may awake;
        ready = λ e. some_left scenario v.valid shape (call_time scenario v.valid shape call) y (t.place + 1) awake;
        running = λ d e late. absurd cc;
        since = omega arith;
        since_running = λ d ne e. absurd cc;
      };
      sleeps = λ y ns t m may is. record {
        fit = f.sleeps y ns t m.fit may is;
        ready = λ e. absurd cc;
        running = λ d e late. absurd cc;
        since = m.since;
        since_running = λ d ne e. absurd cc;
      };
    }

going_before : (scenario : Scenario) (s : SchedulerState) (h : List Entry) (c rows : ℕ) → IsMoving scenario s h c → GoesOn scenario (due s h c) (IsBeforeBill scenario h (due s h c) c rows)
going_before scenario s h c rows v =
    let g = going scenario s h c rows v in
    record {
      readies = λ shape y n t call m may awake. record { in_step = g.readies shape y n t call m.in_step may awake; own = λ e. absurd cc };
      sleeps = λ y ns t m may is. record { in_step = g.sleeps y ns t m.in_step may is; own = λ e. absurd cc };
    }

-- a thread that neither is ready nor runs
in_step_off : (scenario : Scenario) (h : List Entry) (now c rows y : ℕ) (t : ThreadNow) → IsThreadFit scenario rows y t → t.since ≤ now → t.state ≢ Ready → ((d : ℕ) → t.state ≢ Running d) → IsInStep scenario h now c rows y t
in_step_off scenario h now c rows y t f since unready off = record { fit = f; ready = λ e. absurd (unready e); running = λ d e late. absurd (off d e); since = since; since_running = λ d ne e. absurd (off d e) }

-- time is left in the operation that x enters, if it still runs
entered : (scenario : Scenario) (s : SchedulerState) (h : List Entry) (c rows x : ℕ) (shape : Shape) (op : Op) (t : ThreadNow) → IsMoving scenario s h c → shape.call_ns ≡ scenario.shape.call_ns
    → t.since ≤ due s h c → IsThreadFit scenario rows x (enter scenario shape x (place_after op t.place) (due s h c) (Running c) t) → IsInStep scenario h (due s h c) c rows x (enter scenario shape x (place_after op t.place) (due s h c) (Running c) t)
entered scenario s h c rows x shape op t v call since fit =
    let now = due s h c in
    let place = place_after op t.place in
    let next = op_at scenario x place in
    let time = call_time scenario v.valid shape call in
    record {
      fit = fit;
      ready = λ e. elim (sleep_or_awake next) [
        | inl sl ↦ absurd (sleeping_ready (now + sl.0) (sym (ap (λ o. state_in o now (Running c)) sl.1) ∙ e))
        | inr awake ↦ some_left scenario v.valid shape time x place awake
      ];
      running = λ d e late. elim (sleep_or_awake next) [
        | inl sl ↦ absurd (sleeping_running (now + sl.0) d (sym (ap (λ o. state_in o now (Running c)) sl.1) ∙ e))
        | inr awake ↦ some_left scenario v.valid shape time x place awake
      ];
      since = since;
      since_running = λ d ne e. elim (sleep_or_awake next) [
        | inl sl ↦ absurd (sleeping_running (now + sl.0) d (sym (ap (λ o. state_in o now (Running c)) sl.1) ∙ e))
        | inr awake ↦ absurd (ne (same_cpu d (sym (awake_in next now (Running c) awake) ∙ e)))
      ];
    }
  where
    sleeping_ready : (u : ℕ) → Sleeping u ≡ Ready → ⊥
    sleeping_ready u e = cc

    sleeping_running : (u d : ℕ) → Sleeping u ≡ Running d → ⊥
    sleeping_running u d e = cc

    same_cpu : (d : ℕ) → Running c ≡ Running d → d ≡ c
    same_cpu d e = cc

bears : (scenario : Scenario) (s : SchedulerState) (h : List Entry) (c rows : ℕ) → IsMoving scenario s h c → (x : ℕ) → ThreadBears scenario (due s h c) c x rows (IsInStep scenario h (due s h c) c rows) (IsSpent scenario (due s h c) rows)
bears scenario s h c rows v x =
    let now = due s h c in
    let f = fits_bear scenario v.valid now c x rows v.small in
    record {
      going = going scenario s h c rows v;
      delivered = λ y d t m st. in_step_off scenario h now c rows y (record t { state = Replying x }) (f.delivered y d t m.fit st) m.since (λ e. cc) (λ k e. cc);
      marked = λ on t m. record { fit = f.marked on t m.fit; since = m.since };
      stamped = λ n t m. record { fit = f.stamped n t m.fit; since = omega arith };
      prioritized = λ n t m is. record { fit = f.prioritized n t m.fit is; since = m.since };
      joins = λ p t m below. record { fit = f.joins p t m.fit below; since = m.since };
      stays = λ t m run some. record { fit = m.fit; ready = λ e. some; running = λ d e late. some; since = m.since; since_running = λ d ne e. absurd (ne (same_cpu d (sym run ∙ e))) };
      enters = λ shape op t call m run left is no_exit. entered scenario s h c rows x shape op t v call m.since (f.enters shape op t call m.fit run left is no_exit);
      sends = λ d t m is. in_step_off scenario h now c rows x (record t { state = Sending d }) (f.sends d t m.fit is) m.since (λ e. cc) (λ k e. cc);
      waits = λ d k t m is. in_step_off scenario h now c rows x (record t { state = Replying k }) (f.waits d k t m.fit is) m.since (λ e. cc) (λ k e. cc);
      receives = λ d t m is. in_step_off scenario h now c rows x (record t { state = Receiving d }) (f.receives d t m.fit is) m.since (λ e. cc) (λ k e. cc);
      leaves = λ t m is. in_step_off scenario h now c rows x (record t { state = Gone }) (f.leaves t m.fit is) m.since (λ e. cc) (λ k e. cc);
      back = λ t m run. record { fit = f.back t m.fit run; ready = λ e. m.running c run v.early; running = λ d e late. absurd cc; since = m.since; since_running = λ d ne e. absurd cc };
      back_stamped = λ n t m run. record { fit = f.back_stamped n t m.fit run; ready = λ e. m.running c run v.early; running = λ d e late. absurd cc; since = omega arith; since_running = λ d ne e. absurd cc };
    }
  where
    same_cpu : (d : ℕ) → Running c ≡ Running d → d ≡ c
    same_cpu d e = cc

-- ---- the step

-- all threads fit and are timed after a history
abbrev pub AreFit : Scenario → After → List Entry → Type 0
AreFit scenario a h = Each (λ y t. IsThreadFit scenario (length a.state.rows) y t × IsThreadTimed scenario a.reboot h t) a.state.threads

fit_more : (scenario : Scenario) (few rows y : ℕ) (t : ThreadNow) → few ≤ rows → IsThreadFit scenario few y t → IsThreadFit scenario rows y t
fit_more scenario few rows y t l f =
    record { place = f.place; stands = f.stands; endless = f.endless; forever = f.forever; left_small = f.left_small; wakes_soon = f.wakes_soon; priority = f.priority; partition = let p = f.partition in omega (arith, p, l) }

-- the end of the run is not far
pub horizon_small : (scenario : Scenario) → IsScenario scenario → horizon scenario.shape ≤ last_moment
horizon_small scenario r =
    let a : scenario.shape.ticks * scenario.shape.tick ≤ most_ticks * scenario.shape.tick = mul-le-mul_right scenario.shape.tick r.shape.few_ticks in
    let b = r.shape.tick_short in
    omega (arith, a, b)

-- how a step stands after its history
pub record IsStepped (scenario : Scenario) (s : SchedulerState) (h : List Entry) (c : ℕ) (e : Entry) : Type 0 where
  pub moving : IsMoving scenario s h c
  pub past : moment h ≤ due s h c
  pub now : moment (h ++ e ∷ []) ≡ due s h c
  pub own : last_to (h ++ e ∷ []) c ≡ Some (due s h c)
  pub other : (d : ℕ) → d ≢ c → last_to (h ++ e ∷ []) d ≡ last_to h d

stepped : (scenario : Scenario) (order : Order) (s : SchedulerState) (h : List Entry) (c : ℕ) (e : Entry) (t : SchedulerState) → IsScenario scenario → IsSound scenario s h → is_at_horizon s h ≡ false → HasTurn order s h c
    → IsStepOf scenario s h c e t → IsStepped scenario s h c e
stepped scenario order s h c e t r m over turn st =
    let pos = tick_pos scenario s r m.grounded.sizes in
    let same : horizon s.shape ≡ horizon scenario.shape = horizon_same scenario.shape s.shape m.grounded.sizes in
    let within' = due_within order s h c pos m.timely over turn in
    let small = horizon_small scenario r in
    let ahead = m.timely.ahead c turn.exists in
    let says = bill_says c (last_end h c) (due s h c) (cpu_at s c).running in
    let ended : last_end h c ≤ moment h = by_last (last_to h c) refl in
    record {
      moving = record {
        valid = r;
        small = omega (arith, within', same, small);
        early = λ k. let l = turn_early order s h c (horizon scenario.shape) pos m.timely over turn k in omega (arith, l, same);
        forward = let a = says.from in let b = says.to in omega (arith, a, b, ended, ahead);
      };
      past = ahead;
      now = moment-append h e ∙ st.to;
      own = last_own h e c st.cpu ∙ ap (λ n. Some n) st.to;
      other = λ d ne. last_other h e d (λ k. ne (sym k ∙ st.cpu));
    }
  where
    by_last : (last : Option ℕ) → last_to h c ≡ last → last_end h c ≤ moment h
    by_last None is = omega (arith, ap (λ o. unwrap_or o 0) is)
    by_last (Some z) is = let b = m.timely.behind c z is in omega (arith, ap (λ o. unwrap_or o 0) is, b)

timed_off : (scenario : Scenario) (s : SchedulerState) (h : List Entry) (c rows : ℕ) (e : Entry) (o : Option ℕ) (y : ℕ) (t : ThreadNow) → IsStepped scenario s h c e → IsInStep scenario h (due s h c) c rows y t → t.state ≢ Running c
    → IsThreadTimed scenario o (h ++ e ∷ []) t
timed_off scenario s h c rows e o y t p m off = record {
  ready = m.ready;
  running = λ d run late going. let ne = apart d run in m.running d run (λ k. late (p.other d ne ∙ k));
  since = let n = p.now in let l = m.since in omega (arith, n, l);
  since_running = λ d run. let ne = apart d run in let l = m.since_running d ne run in omega (arith, l, ap (λ k. unwrap_or k 0) (p.other d ne));
}
  where
    apart : (d : ℕ) → t.state ≡ Running d → d ≢ c
    apart d run e = off (run ∙ ap (λ k. Running k) e)

timed_on : (scenario : Scenario) (s : SchedulerState) (h : List Entry) (c : ℕ) (e : Entry) (o : Option ℕ) (t : ThreadNow) → IsStepped scenario s h c e → t.since ≤ due s h c → t.state ≡ Running c
    → (due s h c ≢ horizon scenario.shape → o ≡ None → t.left ≢ Some 0) → IsThreadTimed scenario o (h ++ e ∷ []) t
timed_on scenario s h c e o t p since run left = record {
  ready = λ k. absurd (clash (sym run ∙ k));
  running = λ d is late going.
      let same = same_cpu d (sym run ∙ is) in
      left (λ k. late (ap (λ n. last_to (h ++ e ∷ []) n) same ∙ p.own ∙ ap (λ n. Some n) k)) going;
  since = let n = p.now in omega (arith, n, since);
  since_running = λ d is.
      let same = same_cpu d (sym run ∙ is) in
      omega (arith, since, ap (λ k. unwrap_or k 0) (ap (λ n. last_to (h ++ e ∷ []) n) same ∙ p.own));
}
  where
    clash : Running c ≡ Ready → ⊥
    clash k = cc

    same_cpu : (d : ℕ) → Running c ≡ Running d → d ≡ c
    same_cpu d e = cc

leaves : (scenario : Scenario) (s : SchedulerState) (h : List Entry) (c rows : ℕ) (e : Entry) → horizon s.shape ≡ horizon scenario.shape → IsStepped scenario s h c e
    → StepLeaves scenario s h c (IsInStep scenario h (due s h c) c rows) (IsSpent scenario (due s h c) rows) (λ o y t. IsThreadFit scenario rows y t × IsThreadTimed scenario o (h ++ e ∷ []) t)
leaves scenario s h c rows e end p = record {
  ends = λ o y t why m off. (m.fit, timed_off scenario s h c rows e o y t p m off);
  ends_own = λ o y t why m run. (
    m.fit,
    timed_on scenario s h c e o t p m.since run (λ ne going. absurd (elim why [
      | inl at ↦ ne (at ∙ end)
      | inr reboot ↦ reboot going
    ])),
  );
  rests = λ y t ne m off. (m.fit, timed_off scenario s h c rows e None y t p m off);
  picks = λ y t ne m ready. (
    fit_state scenario rows y (Running c) t m.fit (subst (λ z. StandsAt z (op_at scenario y t.place)) ready m.fit.stands) (λ u k. cc),
    timed_on scenario s h c e None (record t { state = Running c }) p m.since refl (λ k going. m.ready ready),
  );
}

-- all that a step of c after h stands on, where there are so many rows after the work of the tick
pub record IsPrepared (scenario : Scenario) (s : SchedulerState) (h : List Entry) (c rows : ℕ) (e : Entry) : Type 0 where
  pub stepped : IsStepped scenario s h c e
  pub standing : IsStanding scenario s c
  pub few : length (begun scenario s h c (due s h c)).rows ≤ rows
  pub begun' : Each (IsBeforeBill scenario h (due s h c) c rows) (begun scenario s h c (due s h c)).threads
  pub bears : StepBears scenario s h c rows (IsBeforeBill scenario h (due s h c) c rows) (IsInStep scenario h (due s h c) c rows) (IsSpent scenario (due s h c) rows)

pub prepared : (scenario : Scenario) (order : Order) (a : After) (h : List Entry) (c rows : ℕ) → IsScenario scenario → IsSound scenario a.state h → over a h ≡ None → HasTurn order a.state h c → AreFit scenario a h
    → length (begun scenario a.state h c (due a.state h c)).rows ≤ rows → IsPrepared scenario a.state h c rows (step scenario a.state h c).entry
prepared scenario order a h c rows r m over turn fit few =
    let s = a.state in
    let run = running_on a h over in
    let now = due s h c in
    let st = sound_step_of scenario order s h c r m turn in
    let p = stepped scenario order s h c (step scenario s h c).entry (step scenario s h c).state r m run.early turn st in
    let v = p.moving in
    let grow = rows_begun scenario s h c now in
    let start : Each (IsBeforeBill scenario h now c rows) s.threads = λ y below.
    let was = fit y below in
    let past = p.past in
    let old = was.1.since in
    record {
      in_step = record {
        fit = fit_more scenario (length s.rows) rows y (thread_at s y) (omega (arith, grow, few)) was.0;
        ready = was.1.ready;
        running = λ d is late. was.1.running d is late run.calm;
        since = omega (arith, past, old);
        since_running = λ d ne is. was.1.since_running d is;
      };
      own = was.1.since_running c;
    } in
    record {
      stepped = p;
      standing = record { names = names_channels scenario r; plain = m.grounded.plain; kept = m.grounded.kept; call = m.grounded.sizes.call_ns };
      few = few;
      begun' = tick_each scenario now (IsBeforeBill scenario h now c rows) (going_before scenario s h c rows v)
          (λ y on t k. let f = k.in_step in record { in_step = record { fit = fit_marked scenario rows y on t f.fit; ready = f.ready; running = f.running; since = f.since; since_running = f.since_running }; own = k.own })
          (unflagged s c) h m.grounded.sizes.call_ns start;
      bears = record {
        moves = bears scenario s h c rows v;
        calms = λ x t k. k.in_step;
        spends = λ x t k is. record { fit = fit_spent scenario rows x (spent_at s h c) t k.in_step.fit; since = let l = k.own is in let f = v.forward in omega (arith, l, f) };
      };
    }

pub fit_step : (scenario : Scenario) (order : Order) (a : After) (h : List Entry) (c : ℕ) → IsScenario scenario → IsSound scenario a.state h → over a h ≡ None → HasTurn order a.state h c
    → AreFit scenario a h → AreFit scenario (left_by (step scenario a.state h c)) (h ++ (step scenario a.state h c).entry ∷ [])
fit_step scenario order a h c r m over turn fit =
    let s = a.state in
    let e = (step scenario s h c).entry in
    let now = due s h c in
    let rows = length (step scenario s h c).state.rows in
    let grow = step_rows scenario s h c (record { names = names_channels scenario r; plain = m.grounded.plain; kept = m.grounded.kept; call = m.grounded.sizes.call_ns }) in
    let p = prepared scenario order a h c rows r m over turn fit (omega (arith, grow)) in
    step_each scenario s h c rows (IsBeforeBill scenario h now c rows) (IsInStep scenario h now c rows) (IsSpent scenario now rows) (λ o y t. IsThreadFit scenario rows y t × IsThreadTimed scenario o (h ++ e ∷ []) t)
    p.bears (leaves scenario s h c rows e (horizon_same scenario.shape s.shape m.grounded.sizes) p.stepped) p.standing p.few p.begun'

-- ---- the start

pub start_count : (shape : Shape) (rows : List ThreadRow) (number next : ℕ) → length (start_threads shape number next rows) ≡ length rows
start_count shape [] number next = refl
start_count shape (row ∷ rows) number next = ap (λ n. suc n) (start_count shape rows (number + 1) (stamp_after (first_state row) next))

-- a thread at the start is one that starts with its row
pub started_at : (shape : Shape) (P : ThreadNow → Type 0) (rows : List ThreadRow) (number next y : ℕ) → y < length rows → ((n k : ℕ) → P (started shape n k (slice_index_or rows y no_thread_row)))
    → P (slice_index_or (start_threads shape number next rows) y no_thread)
started_at shape P [] number next y below each = absurd (omega arith)
started_at shape P (row ∷ rows) number next zero below each = each number next
started_at shape P (row ∷ rows) number next (suc y) below each = started_at shape P rows (number + 1) (stamp_after (first_state row) next) y (omega arith) each

pub fit_opening : (scenario : Scenario) → IsScenario scenario → AreFit scenario (at_start scenario) []
fit_opening scenario r y below =
    let inside : y < length scenario.threads = subst (λ n. y < n) (start_count scenario.shape scenario.threads 0 0) below in
    let row = row_fits scenario r y inside in
    let time = call_time scenario r scenario.shape refl in
    started_at scenario.shape (λ t. IsThreadFit scenario (length scenario.partitions) y t × IsThreadTimed scenario None [] t) scenario.threads 0 0 y inside
    (λ n k. (
      fit_of scenario r scenario.shape time (length scenario.partitions) y 0 Ready (started scenario.shape n k (thread_row scenario y)) tt (omega arith) (first_fits scenario r y inside) refl refl row.priority row.partition,
      record {
        ready = λ e. elim (sleep_or_awake (first_op (thread_row scenario y))) [
          | inl sl ↦ absurd (asleep sl.0 (sym (ap (λ o. state_in o 0 Ready) sl.1) ∙ e))
          | inr awake ↦ some_left scenario r scenario.shape time y 0 awake
        ];
        running = λ d e late going. absurd (first_off (first_state (thread_row scenario y)) d (first_in (first_op (thread_row scenario y))) e);
        since = omega arith;
        since_running = λ d e. omega arith;
      },
    ))
  where
    asleep : (u : ℕ) → Sleeping (0 + u) ≡ Ready → ⊥
    asleep u e = cc

    first_off : (st : State) (d : ℕ) → IsFirst st → st ≡ Running d → ⊥
    first_off st d first e = subst IsFirst e first

pub fits_law : (scenario : Scenario) (order : Order) (h : List Entry) → IsScenario scenario → IsLegal scenario order h → AreFit scenario (after scenario h) h
fits_law scenario order h r legal =
    (carried scenario order (λ h a. IsSound scenario a.state h × AreFit scenario a h) (sound_opening scenario, fit_opening scenario r)
    (λ h a c m run turn. (sound_step scenario order a.state h c r m.0 (running_on a h run).early turn, fit_step scenario order a h c r m.0 run turn m.1)) h legal).1
