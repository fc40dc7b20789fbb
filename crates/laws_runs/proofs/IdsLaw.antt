-- Each number in the state of a legal history names something that exists.
use Rattle.std.proofs.Common.{◌≡◌, ◌≢◌, ℕ, ◌/◌, ◌<◌, ◌≤◌, List, [], ◌∷◌, ◌++◌, length, refl, sym, ◌∙◌, ap, subst, Option, Some, None, arith, inl, inr, ◌⊎◌}
use Rattle.std.specs.Prelude.{All}
use Rattle.std.proofs.lemmas.Bool.{cases_eq, cases_lt}
use Rattle.std.proofs.lemmas.List.{get_or_past}
use Rattle.std.proofs.lemmas.List.Elements.{All-nil}
use Rattle.aps_model.specs.declared.entry.Entry.{Entry}
use Rattle.aps_model.specs.declared.entry.Order.{Order}
use Rattle.aps_model.specs.declared.state.CpuNow.{CpuNow}
use Rattle.aps_model.specs.declared.state.Pick.{Pick}
use Rattle.aps_model.specs.declared.state.State.{State}
use Rattle.aps_model.specs.declared.state.State.TheVariants.{Ready, Running, Sleeping, Sending, Receiving, Replying, Gone}
use Rattle.aps_model.specs.Limits.{greatest_priority}
use Rattle.laws_runs.specs.Ids.{AreFactsFit, IsInRange, IsMessageFit, IsTripleFit, NamesKnown}
use Rattle.laws_runs.specs.Sound.{IsSound}
use Rattle.laws_runs.specs.ThreadFits.{Each, StandsAt}
use Rattle.laws_runs.specs.Untouched.{AgreesOnRunning, IsPickSaid, thread_kept}
use Rattle.laws_runs.specs.Waits.{state_at}
use Rattle.laws_runs.proofs.Carry.{carried}
use Rattle.laws_runs.proofs.Channels.{names_channels}
use Rattle.laws_runs.proofs.EachStep.{IsStanding}
use Rattle.laws_runs.proofs.Inherits.{all_both, all_more, facts_fit}
use Rattle.laws_runs.proofs.ListsFit.{AreListsFit, step_lists}
use Rattle.laws_runs.proofs.Mid.{back_mid, test_mid}
use Rattle.laws_runs.proofs.Opening.{idle_opening, empty_channel}
use Rattle.laws_runs.proofs.Picked.{flag_running}
use Rattle.laws_runs.proofs.Ranges.{pairs_within, receivers_within, senders_within, server_within}
use Rattle.laws_runs.proofs.RowsGrow.{rows_begun, step_rows}
use Rattle.laws_runs.proofs.Sound.{running_on, sound_opening, sound_step, sound_step_of}
use Rattle.laws_runs.proofs.StepOf.{bill_at, mid_count, mid_own, step_by, tested_at}
use Rattle.laws_runs.proofs.ThreadFacts.{running_within, within}
use Rattle.laws_runs.proofs.ThreadFit.{AreFit, fit_opening, fit_step, start_count}
use Rattle.laws_runs.proofs.PickSays.{pick_says, no_best}
use Rattle.aps_model.specs.After.{After, after, at_start, left_by, over, state_after}
use Rattle.aps_model.specs.Budget.{all_parts}
use Rattle.aps_model.specs.Due.{HasTurn, due}
use Rattle.aps_model.specs.Flag.{flag_for}
use Rattle.aps_model.specs.Inherit.{facts_of}
use Rattle.aps_model.specs.Legal.{IsLegal}
use Rattle.aps_model.specs.Pick.{contenders, greatest}
use Rattle.aps_model.specs.Program.{IsPriority}
use Rattle.aps_model.specs.Scenario.{Scenario, op_at}
use Rattle.aps_model.specs.SchedulerState.{ChannelNow, Message, SchedulerState, Triple, channel_at, cpu_at, idle, thread_at}
use Rattle.aps_model.specs.Step.{Step, chosen, settled, step}
use Rattle.aps_model.specs.Valid.{IsScenario}

-- the partition that a processor keeps is a row
abbrev pub KeepsRows : SchedulerState → Type 0
KeepsRows s = (c : ℕ) (p : Pick) → (cpu_at s c).running ≡ Some p → p.partition < length s.rows

-- where the entry picks nobody, its processor keeps what it kept, or nothing
abbrev KeepsOrNot : SchedulerState → ℕ → Step → Type 0
KeepsOrNot s c out = out.entry.picked ≡ None → ((cpu_at out.state c).running ≡ None) ⊎ ((cpu_at out.state c).running ≡ (cpu_at s c).running)

keeps_or_not : (scenario : Scenario) (s : SchedulerState) (h : List Entry) (c : ℕ) → IsStanding scenario s c → c < length s.cpus → KeepsOrNot s c (step scenario s h c)
keeps_or_not scenario s h c st below =
    let now = due s h c in
    let running = (cpu_at s c).running in
    let mid = test_mid scenario s h c now (bill_at s h c) running st.plain st.kept refl in
    let s3 = (tested_at scenario s h c).state in
    let back = back_mid scenario s s3 c now running st.names st.kept refl mid in
    step_by scenario s h c (KeepsOrNot s c)
    (λ o why none. inr (ap (λ (z : CpuNow). z.running) (mid_own scenario s c s3 below mid.mid)))
    (λ early none.
    let did = settled scenario s3 now running in
    let r = did.state in
    let ps = all_parts r.shape r.rows (h ++ (record (bill_at s h c) { done = did.done }) ∷ []) (now / r.shape.tick) in
    let best = greatest r.shape.free ps (contenders r) in
    let q = chosen r ps c best in
    inl (flag_running q now (flag_for q h ps c now (greatest r.shape.free ps (contenders q))) c ∙ no_best r ps c best (subst (λ n. c < n) (sym (mid_count scenario s c r back.mid)) below) none))

-- ---- through a step

own_fit : (scenario : Scenario) (a : After) (h : List Entry) → AreFit scenario a h → Each (λ y t. AreFactsFit (length a.state.rows) t.own) a.state.threads
own_fit scenario a h m y below = let f = (m y below).0 in record { partition = f.partition; priority = f.priority }

inherited_fit : (scenario : Scenario) (a : After) (h : List Entry) → IsSound scenario a.state h → AreFit scenario a h → AreListsFit (length scenario.channels) a.state.channels a.state.triples
    → (x : ℕ) → x < length a.state.threads → AreFactsFit (length a.state.rows) (facts_of a.state x)
inherited_fit scenario a h m fit lists x below =
    let s = a.state in
    facts_fit s (length s.rows) x (own_fit scenario a h fit) (λ d. all_more (λ (k : Message). IsPriority k.priority) (λ (k : Message). k.priority ≤ greatest_priority) (channel_at s d).messages (λ k f. f.few) (lists.messages d))
    (all_more (λ (t : Triple). (t.server < length s.threads) × (t.client < length s.threads)) (λ (t : Triple). t.client < length s.threads) s.triples (λ t f. f.1) (pairs_within s m.grounded.plain.waiting)) below

-- all that is carried
pub record AllFit (scenario : Scenario) (a : After) (h : List Entry) : Type 0 where
  pub sound : IsSound scenario a.state h
  pub count : length a.state.threads ≡ length scenario.threads
  pub fit : AreFit scenario a h
  pub lists : AreListsFit (length scenario.channels) a.state.channels a.state.triples
  pub kept : KeepsRows a.state

all_step : (scenario : Scenario) (order : Order) (a : After) (h : List Entry) (c : ℕ) → IsScenario scenario → over a h ≡ None → HasTurn order a.state h c → AllFit scenario a h → AllFit scenario (left_by (step scenario a.state h c)) (h ++ (step scenario a.state h c).entry ∷ [])
all_step scenario order a h c r over turn m =
    let s = a.state in
    let run = running_on a h over in
    let e = (step scenario s h c).entry in
    let b = left_by (step scenario s h c) in
    let t = b.state in
    let st = sound_step_of scenario order s h c r m.sound turn in
    let g = m.sound.grounded in
    let stand : IsStanding scenario s c = record { names = names_channels scenario r; plain = g.plain; kept = g.kept; call = g.sizes.call_ns } in
    let below : c < length s.cpus = subst (λ n. c < n) (sym g.cpu_count) turn.exists in
    let sound' = sound_step scenario order s h c r m.sound run.early turn in
    let fit' = fit_step scenario order a h c r m.sound over turn m.fit in
    let lists' = step_lists scenario s h c (length s.rows) stand (own_fit scenario a h m.fit) m.lists in
    let said = pick_says scenario s h c stand.names g.plain g.kept below in
    let more : length s.rows ≤ length t.rows = let x = step_rows scenario s h c stand in let y = rows_begun scenario s h c (due s h c) in omega (arith, x, y) in
    let none = keeps_or_not scenario s h c stand below in
    record {
      sound = sound';
      count = st.count ∙ m.count;
      fit = fit';
      lists = lists';
      kept = λ d p is. elim (cases_eq d c) [
        | inr ne ↦ let l = m.kept d p (sym (st.others_running d ne) ∙ is) in omega (arith, l, more)
        | inl same ↦ by_pick e.picked refl said none m.kept more (ap (λ k. (cpu_at t k).running) (sym same) ∙ is) sound'.grounded.kept (inherited_fit scenario b (h ++ e ∷ []) sound' fit' lists')
      ];
    }
  where
    some_same : (x y : Pick) → Some x ≡ Some y → x ≡ y
    some_same x y e = cc

    nobody : (p : Pick) → None ≡ Some p → ⊥
    nobody p e = cc

    by_pick : {s t : SchedulerState} {h : List Entry} {c : ℕ} {e : Entry} {reboot : Option ℕ} {p : Pick} → (o : Option ℕ) → e.picked ≡ o → IsPickSaid s h c e t reboot
        → (e.picked ≡ None → ((cpu_at t c).running ≡ None) ⊎ ((cpu_at t c).running ≡ (cpu_at s c).running)) → KeepsRows s → length s.rows ≤ length t.rows
        → (cpu_at t c).running ≡ Some p → AgreesOnRunning t → ((x : ℕ) → x < length t.threads → AreFactsFit (length t.rows) (facts_of t x)) → p.partition < length t.rows
    by_pick {s} {t} {h} {c} {e} {reboot} {p} None is said none kept more run k fits = elim (none is) [
      | inl idle' ↦ absurd (nobody p (sym idle' ∙ run))
      | inr same ↦ let l = kept c p (sym same ∙ run) in omega (arith, l, more)
    ]
    by_pick {s} {t} {h} {c} {e} {reboot} {p} (Some x) is said none kept more run k fits =
        let at = some_same _ p (sym (said.some x is) ∙ run) in
        let there : state_at t p.thread ≡ Running c = k.runs c p run in
        let thread : p.thread ≡ x = ap (λ (z : Pick). z.thread) (sym at) in
        let partition : p.partition ≡ (facts_of t x).partition = ap (λ (z : Pick). z.partition) (sym at) in
        let inside : x < length t.threads = subst (λ n. n < length t.threads) thread (running_within t p.thread c there) in
        let f = fits x inside in
        let l = f.partition in
        omega (arith, l, partition)

all_opening : (scenario : Scenario) → IsScenario scenario → AllFit scenario (at_start scenario) []
all_opening scenario r = record {
  sound = sound_opening scenario;
  count = start_count scenario.shape scenario.threads 0 0;
  fit = fit_opening scenario r;
  lists = record {
    messages = λ d. subst (λ (k : ChannelNow). All (λ (m : Message). IsPriority m.priority) k.messages) (sym (empty_channel scenario.channels d)) (All-nil (λ (m : Message). IsPriority m.priority));
    triples = All-nil (λ (t : Triple). t.channel < length scenario.channels);
  };
  kept = λ c p is. absurd (nobody p (sym (ap (λ (z : CpuNow). z.running) (idle_opening scenario c)) ∙ is));
}
  where
    nobody : (p : Pick) → None ≡ Some p → ⊥
    nobody p e = cc

pub all_fit : (scenario : Scenario) (order : Order) (h : List Entry) → IsScenario scenario → IsLegal scenario order h → AllFit scenario (after scenario h) h
all_fit scenario order h r legal = carried scenario order (λ h a. AllFit scenario a h) (all_opening scenario r) (λ h a c m run turn. all_step scenario order a h c r run turn m) h legal

-- ---- the law

known_in : (scenario : Scenario) (s : SchedulerState) (x : ℕ) (st : State) → IsScenario scenario → state_at s x ≡ st → ((c : ℕ) → st ≡ Running c → c < scenario.shape.cpus) → ((y : ℕ) → st ≡ Replying y → y < length scenario.threads)
    → ((d : ℕ) → st ≡ Sending d → d < length scenario.channels) → ((d : ℕ) → st ≡ Receiving d → d < length scenario.channels) → NamesKnown scenario st
known_in scenario s x Ready r at runs serves sends receives = tt
known_in scenario s x (Running c) r at runs serves sends receives = runs c refl
known_in scenario s x (Sleeping until) r at runs serves sends receives = tt
known_in scenario s x (Sending d) r at runs serves sends receives = sends d refl
known_in scenario s x (Receiving d) r at runs serves sends receives = receives d refl
known_in scenario s x (Replying y) r at runs serves sends receives = serves y refl
known_in scenario s x Gone r at runs serves sends receives = tt

pub in_range : (scenario : Scenario) (order : Order) (h : List Entry) → IsScenario scenario → IsLegal scenario order h → IsInRange scenario (state_after scenario h)
in_range scenario order h r legal =
    let m = all_fit scenario order h r legal in
    let s = state_after scenario h in
    let n = length scenario.threads in
    let g = m.sound.grounded in
    let w = g.plain.waiting in
    let names = names_channels scenario r in
    let place = λ (x : ℕ) (st : State) (at : state_at s x ≡ st) (gone : st ≢ Gone). subst (λ z. StandsAt z (op_at scenario x (thread_at s x).place)) at (m.fit x (within s.threads x (λ e. gone (sym at ∙ e)))).0.stands in
    record {
      states = λ x. known_in scenario s x (state_at s x) r refl
          (λ c is. subst (λ k. c < k) (g.cpu_count ∙ g.sizes.cpus) (kept_below s c (g.kept.kept x c is)))
          (λ y is. subst (λ k. y < k) m.count (server_within s w x y is))
          (λ d is. names.sends x (thread_at s x).place d (place x (Sending d) is (λ e. cc)))
          (λ d is. names.receives x (thread_at s x).place d (place x (Receiving d) is (λ e. cc)));
      messages = λ d. all_both (λ (k : Message). k.sender < length s.threads) (λ (k : Message). IsPriority k.priority) (IsMessageFit n) (channel_at s d).messages
          (λ k a b. record { sender = subst (λ i. k.sender < i) m.count a; priority = b }) (senders_within s w d) (m.lists.messages d);
      receivers = λ d. subst (λ i. All (λ y. y < i) (channel_at s d).receivers) m.count (receivers_within s w d);
      triples = all_both (λ (t : Triple). (t.server < length s.threads) × (t.client < length s.threads)) (λ (t : Triple). t.channel < length scenario.channels) (IsTripleFit n (length scenario.channels)) s.triples
          (λ t a b. record { server = subst (λ i. t.server < i) m.count a.0; client = subst (λ i. t.client < i) m.count a.1; channel = b }) (pairs_within s w) m.lists.triples;
      inherited = λ x below. inherited_fit scenario (after scenario h) h m.sound m.fit m.lists x (subst (λ i. x < i) (sym m.count) below);
      kept = λ c p is. record { thread = subst (λ i. p.thread < i) m.count (running_within s p.thread c (g.kept.runs c p is)); partition = m.kept c p is };
    }
  where
    kept_below : (s : SchedulerState) (c : ℕ) → {y : ℕ} → thread_kept (cpu_at s c).running ≡ Some y → c < length s.cpus
    kept_below s c {y} e = elim (cases_lt c (length s.cpus)) [
      | inl below ↦ below
      | inr past ↦ absurd (none y (sym (ap (λ (z : CpuNow). thread_kept z.running) (get_or_past s.cpus c idle past)) ∙ e))
    ]
      where
        none : (y : ℕ) → None ≡ Some y → ⊥
        none y e = cc
