-- A property of each thread by itself through a whole step.
use Rattle.std.proofs.Common.{◌≡◌, ◌≢◌, ℕ, ◌+◌, ◌-◌, ◌/◌, ◌<◌, ◌≤◌, List, [], ◌∷◌, ◌++◌, length, refl, sym, ◌∙◌, ap, subst, Option, Some, None, slice_index_or, slice_set, inl, inr, length-set}
use Rattle.std.specs.Option.{option_map}
use Rattle.std.proofs.lemmas.Bool.{cases_eq}
use Rattle.aps_model.specs.declared.entry.Entry.{Entry}
use Rattle.aps_model.specs.declared.state.State.TheVariants.{Ready, Running}
use Rattle.aps_model.specs.declared.state.ThreadNow.{ThreadNow}
use Rattle.aps_model.specs.declared.state.Pick.{Pick}
use Rattle.aps_model.specs.declared.merit.PartFacts.{PartFacts}
use Rattle.aps_model.specs.declared.merit.Contender.{Contender}
use Rattle.laws_runs.specs.Bears.{NamesChannels}
use Rattle.laws_runs.specs.ThreadFits.{Each}
use Rattle.laws_runs.specs.Sizes.{IsSameSizes}
use Rattle.laws_runs.specs.Untouched.{IsComplete, AgreesOnRunning, thread_kept}
use Rattle.laws_runs.specs.Waits.{IsPlain, state_at}
use Rattle.laws_runs.proofs.EachThread.{each_beside, each_set}
use Rattle.laws_runs.proofs.ThreadFacts.{set_same, running_within}
use Rattle.laws_runs.proofs.ThreadMoves.{alike_state}
use Rattle.laws_runs.proofs.ThreadSteps.{Beside, IsReadyTo, ThreadBears, settled_each}
use Rattle.laws_runs.proofs.Mid.{back_mid, test_mid, tested_by, ticked, unflagged}
use Rattle.laws_runs.proofs.Picked.{IsReadyBest, flag_threads, greatest_ready}
use Rattle.laws_runs.proofs.StepOf.{bill_at, horizon_same, not_horizon, step_by, tested_at}
use Rattle.aps_model.specs.Bill.{spend}
use Rattle.aps_model.specs.Budget.{all_parts}
use Rattle.aps_model.specs.Due.{due}
use Rattle.aps_model.specs.Flag.{flag_for}
use Rattle.aps_model.specs.Pick.{contenders, greatest}
use Rattle.aps_model.specs.Scenario.{Scenario}
use Rattle.aps_model.specs.SchedulerState.{SchedulerState, cpu_at, no_thread, thread_at}
use Rattle.aps_model.specs.Shape.{horizon}
use Rattle.aps_model.specs.Step.{Step, begun, billed, chosen, settled, step}

-- how long the step bills
abbrev pub spent_at : SchedulerState → List Entry → ℕ → ℕ
spent_at s h c = (bill_at s h c).to - (bill_at s h c).from

-- the thread after the bill
abbrev pub spent_of : ℕ → ThreadNow → ThreadNow
spent_of ns t = record t { left = option_map (λ left. left - ns) t.left; since = t.since + ns }

-- what these properties have to bear in the step of processor c after h, where Q0 holds before the bill
pub record StepBears (scenario : Scenario) (s : SchedulerState) (h : List Entry) (c rows : ℕ) (Q0 Q R : ℕ → ThreadNow → Type 0) : Type 0 where
  pub moves : (x : ℕ) → ThreadBears scenario (due s h c) c x rows Q R
  pub calms : (x : ℕ) (t : ThreadNow) → Q0 x t → Q x t
  pub spends : (x : ℕ) (t : ThreadNow) → Q0 x t → t.state ≡ Running c → R x (spent_of (spent_at s h c) t)

-- what the laws of a step stand on
pub record IsStanding (scenario : Scenario) (s : SchedulerState) (c : ℕ) : Type 0 where
  pub names : NamesChannels scenario
  pub plain : IsPlain scenario s
  pub kept : AgreesOnRunning s
  pub call : s.shape.call_ns ≡ scenario.shape.call_ns

-- after the bill
record IsBilledEach (running : Option Pick) (rows : ℕ) (Q R : ℕ → ThreadNow → Type 0) (t : SchedulerState) : Type 0 where
  idle : running ≡ None → Each Q t.threads
  others : (p : Pick) → running ≡ Some p → Each (Beside p.thread Q) t.threads
  own : (p : Pick) → running ≡ Some p → R p.thread (thread_at t p.thread)
  few : length t.rows ≤ rows

running_begun : (scenario : Scenario) (s : SchedulerState) (h : List Entry) (c now : ℕ) (p : Pick) → IsPlain scenario s → AgreesOnRunning s → (cpu_at s c).running ≡ Some p → state_at (begun scenario s h c now) p.thread ≡ Running c
running_begun scenario s h c now p plain k e =
    alike_state ((ticked scenario (unflagged s c) h now (record { waiting = plain.waiting; channels = plain.channels })).as_before p.thread c (k.runs c p e)) ∙ k.runs c p e

billed_each : (scenario : Scenario) (s : SchedulerState) (h : List Entry) (c rows : ℕ) (Q0 Q R : ℕ → ThreadNow → Type 0) → StepBears scenario s h c rows Q0 Q R → IsStanding scenario s c
    → length (begun scenario s h c (due s h c)).rows ≤ rows → Each Q0 (begun scenario s h c (due s h c)).threads
    → (running : Option Pick) → (cpu_at s c).running ≡ running → IsBilledEach running rows Q R (spend (begun scenario s h c (due s h c)) (spent_at s h c) running)
billed_each scenario s h c rows Q0 Q R b st few m None e = record { idle = λ f y l. b.calms y (thread_at (begun scenario s h c (due s h c)) y) (m y l); others = λ p f. absurd (nobody p f); own = λ p f. absurd (nobody p f); few = few }
  where
    nobody : (p : Pick) → None ≡ Some p → ⊥
    nobody p f = cc
billed_each scenario s h c rows Q0 Q R b st few m (Some p) e =
    let r = begun scenario s h c (due s h c) in
    let run : state_at r p.thread ≡ Running c = running_begun scenario s h c (due s h c) p st.plain st.kept e in
    let below : p.thread < length r.threads = running_within r p.thread c run in
    let t : ThreadNow = spent_of (spent_at s h c) (thread_at r p.thread) in
    let here : R p.thread t = b.spends p.thread (thread_at r p.thread) (m p.thread below) run in
    record {
      idle = λ f. absurd (somebody f);
      others = λ q f. subst (λ (z : Pick). Each (Beside z.thread Q) (slice_set r.threads p.thread t)) (some_same p q f) (each_beside Q r.threads p.thread t (λ y l ne. b.calms y (thread_at r y) (m y l)));
      own = λ q f. subst (λ (z : Pick). R z.thread (slice_index_or (slice_set r.threads p.thread t) z.thread no_thread)) (some_same p q f) (subst (R p.thread) (sym (set_same r.threads p.thread t below)) here);
      few = few;
    }
  where
    somebody : ◌≡◌ {A = Option Pick} (Some p) None → ⊥
    somebody f = cc

    some_same : (a b : Pick) → Some a ≡ Some b → a ≡ b
    some_same a b f = cc

-- after the test of bankruptcy
pub record IsTestedEach (scenario : Scenario) (c rows : ℕ) (running : Option Pick) (Q R : ℕ → ThreadNow → Type 0) (t : SchedulerState) : Type 0 where
  pub idle : running ≡ None → Each Q t.threads
  pub ready : (p : Pick) → running ≡ Some p → IsReadyTo scenario c p.thread rows Q R t

pub tested_each : (scenario : Scenario) (s : SchedulerState) (h : List Entry) (c rows : ℕ) (Q0 Q R : ℕ → ThreadNow → Type 0) → StepBears scenario s h c rows Q0 Q R → IsStanding scenario s c
    → length (begun scenario s h c (due s h c)).rows ≤ rows → Each Q0 (begun scenario s h c (due s h c)).threads → IsTestedEach scenario c rows (cpu_at s c).running Q R (tested_at scenario s h c).state
tested_each scenario s h c rows Q0 Q R b st few m =
    let running = (cpu_at s c).running in
    let e = bill_at s h c in
    let r = billed (begun scenario s h c (due s h c)) e running in
    let mid = test_mid scenario s h c (due s h c) e running st.plain st.kept refl in
    let t = tested_by r.shape.bankruptcy r _ _ (IsBilledEach running rows Q R) (billed_each scenario s h c rows Q0 Q R b st few m running refl)
    (λ p.
    let was = billed_each scenario s h c rows Q0 Q R b st few m running refl in
    record { idle = was.idle; others = was.others; own = was.own; few = subst (λ n. n ≤ rows) (sym (length-set r.rows p _)) was.few }) in
    record {
      idle = t.idle;
      ready = λ p f. record { plain = mid.mid.plain; call = mid.mid.sizes.call_ns ∙ st.call; few = t.few; others = t.others p f; own = t.own p f; runs = mid.runs p f };
    }

-- before the pick, where c runs nobody
pub back_each : (scenario : Scenario) (s : SchedulerState) (h : List Entry) (c rows : ℕ) (Q0 Q R : ℕ → ThreadNow → Type 0) → StepBears scenario s h c rows Q0 Q R → IsStanding scenario s c
    → IsTestedEach scenario c rows (cpu_at s c).running Q R (tested_at scenario s h c).state → Each Q (settled scenario (tested_at scenario s h c).state (due s h c) (cpu_at s c).running).state.threads
back_each scenario s h c rows Q0 Q R b st m = by_running (cpu_at s c).running refl
  where
    by_running : (running : Option Pick) → (cpu_at s c).running ≡ running → Each Q (settled scenario (tested_at scenario s h c).state (due s h c) running).state.threads
    by_running None e = m.idle e
    by_running (Some p) e = settled_each scenario (due s h c) c rows p Q R (b.moves p.thread) st.names (tested_at scenario s h c).state (m.ready p e)

-- what the step leaves of a thread: where it ends after its bill, and where it picks
pub record StepLeaves (scenario : Scenario) (s : SchedulerState) (h : List Entry) (c : ℕ) (Q R : ℕ → ThreadNow → Type 0) (F : Option ℕ → ℕ → ThreadNow → Type 0) : Type 0 where
  pub ends : (o : Option ℕ) (y : ℕ) (t : ThreadNow) → IsComplete s (due s h c) o → Q y t → t.state ≢ Running c → F o y t
  pub ends_own : (o : Option ℕ) (y : ℕ) (t : ThreadNow) → IsComplete s (due s h c) o → R y t → t.state ≡ Running c → F o y t
  pub rests : (y : ℕ) (t : ThreadNow) → due s h c ≢ horizon s.shape → Q y t → t.state ≢ Running c → F None y t
  pub picks : (y : ℕ) (t : ThreadNow) → due s h c ≢ horizon s.shape → Q y t → t.state ≡ Ready → F None y (record t { state = Running c })

picked_each : (r : SchedulerState) (ps : List PartFacts) (c : ℕ) (Q G : ℕ → ThreadNow → Type 0) → ((y : ℕ) (t : ThreadNow) → Q y t → t.state ≢ Running c → G y t) → ((y : ℕ) (t : ThreadNow) → Q y t → t.state ≡ Ready → G y (record t { state = Running c }))
    → (best : Option Contender) → ((b : Contender) → best ≡ Some b → IsReadyBest r b) → Each Q r.threads → ((y : ℕ) → state_at r y ≢ Running c) → Each G (chosen r ps c best).threads
picked_each r ps c Q G rests picks None ready m off y below = rests y (thread_at r y) (m y below) (off y)
picked_each r ps c Q G rests picks (Some best) ready m off y below =
    each_set G r.threads best.thread (record (thread_at r best.thread) { state = Running c }) (λ z l. rests z (thread_at r z) (m z l) (off z))
    (λ l. picks best.thread (thread_at r best.thread) (m best.thread l) (ready best refl).ready) y below

pub step_each : (scenario : Scenario) (s : SchedulerState) (h : List Entry) (c rows : ℕ) (Q0 Q R : ℕ → ThreadNow → Type 0) (F : Option ℕ → ℕ → ThreadNow → Type 0) → StepBears scenario s h c rows Q0 Q R → StepLeaves scenario s h c Q R F
    → IsStanding scenario s c → length (begun scenario s h c (due s h c)).rows ≤ rows → Each Q0 (begun scenario s h c (due s h c)).threads → Each (F (step scenario s h c).reboot) (step scenario s h c).state.threads
step_each scenario s h c rows Q0 Q R F b f st few m =
    let now = due s h c in
    let running = (cpu_at s c).running in
    let mid = test_mid scenario s h c now (bill_at s h c) running st.plain st.kept refl in
    let test = tested_each scenario s h c rows Q0 Q R b st few m in
    let back = back_mid scenario s (tested_at scenario s h c).state c now running st.names st.kept refl mid in
    let settled' = back_each scenario s h c rows Q0 Q R b st test in
    step_by scenario s h c (λ (out : Step). Each (F out.reboot) out.state.threads)
    (λ o why. ended o (complete_there o why mid.mid.sizes) running refl test mid.only)
    (λ early.
    let did = settled scenario (tested_at scenario s h c).state now running in
    let r = did.state in
    let ps = all_parts r.shape r.rows (h ++ (record (bill_at s h c) { done = did.done }) ∷ []) (now / r.shape.tick) in
    let best = greatest r.shape.free ps (contenders r) in
    let q = chosen r ps c best in
    let ne : now ≢ horizon s.shape = not_horizon s (tested_at scenario s h c).state now mid.mid.sizes early in
    subst (Each (F None)) (sym (flag_threads q now (flag_for q h ps c now (greatest r.shape.free ps (contenders q)))))
    (picked_each r ps c Q (F None) (λ y t. f.rests y t ne) (λ y t. f.picks y t ne) best (greatest_ready r r.shape.free ps) settled' (λ y run. back.off y run)))
  where
    complete_there : (o : Option ℕ) → IsComplete (tested_at scenario s h c).state (due s h c) o → IsSameSizes s.shape (tested_at scenario s h c).state.shape → IsComplete s (due s h c) o
    complete_there o (inl at) sizes = inl (at ∙ horizon_same s.shape (tested_at scenario s h c).state.shape sizes)
    complete_there o (inr why) sizes = inr why

    nobody : (y : ℕ) → None ≡ Some y → ⊥
    nobody y e = cc

    some_same : (a b : ℕ) → Some a ≡ Some b → a ≡ b
    some_same a b e = cc

    ended : (o : Option ℕ) → IsComplete s (due s h c) o → (running : Option Pick) → (cpu_at s c).running ≡ running → IsTestedEach scenario c rows (cpu_at s c).running Q R (tested_at scenario s h c).state
        → ((y : ℕ) → state_at (tested_at scenario s h c).state y ≡ Running c → thread_kept (cpu_at s c).running ≡ Some y) → Each (F o) (tested_at scenario s h c).state.threads
    ended o why None e test only y below =
        f.ends o y (thread_at (tested_at scenario s h c).state y) why (test.idle e y below) (λ run. nobody y (sym (ap thread_kept e) ∙ only y run))
    ended o why (Some p) e test only y below =
        let ready = test.ready p e in
        elim (cases_eq y p.thread) [
          | inl same ↦ subst (λ k. F o k (thread_at (tested_at scenario s h c).state k)) (sym same) (f.ends_own o p.thread (thread_at (tested_at scenario s h c).state p.thread) why ready.own ready.runs)
          | inr ne ↦ f.ends o y (thread_at (tested_at scenario s h c).state y) why (ready.others y below ne) (λ run. ne (some_same y p.thread (sym (only y run) ∙ ap thread_kept e)))
        ]
