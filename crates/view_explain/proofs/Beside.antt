-- What the operation of a step goes by: the same as before the step.
use Rattle.std.proofs.Common.{◌≡◌, ℕ, ◌-◌, List, [], ◌∷◌, length, max, refl, sym, ◌∙◌, ap, Bool, cond, nat_eq, Option, Some, None, slice_index_or, slice_set, inl, inr}
use Rattle.std.proofs.lemmas.Bool.{cases_eq, cases_lt}
use Rattle.std.proofs.lemmas.List.{set_past}
use Rattle.aps_model.specs.declared.command.CommandRow.{CommandRow}
use Rattle.aps_model.specs.declared.entry.Entry.{Entry}
use Rattle.aps_model.specs.declared.state.Facts.{Facts}
use Rattle.aps_model.specs.declared.state.Pick.{Pick}
use Rattle.aps_model.specs.declared.state.State.TheVariants.{Running}
use Rattle.aps_model.specs.declared.state.ThreadNow.{ThreadNow}
use Rattle.aps_model.specs.Bill.{cancel, spend}
use Rattle.aps_model.specs.Due.{due}
use Rattle.aps_model.specs.Inherit.{Inheritance, facts_of, follow, inheritance_of, top_at}
use Rattle.aps_model.specs.Command.{perform}
use Rattle.aps_model.specs.Operation.{go_on}
use Rattle.aps_model.specs.Scenario.{Scenario}
use Rattle.aps_model.specs.SchedulerState.{SchedulerState, Triple, cpu_at, no_facts, no_thread, thread_at}
use Rattle.aps_model.specs.Step.{begun, billed}
use Rattle.aps_model.specs.TickWork.{do_command, thread_named, view_of, with_mark}
use Rattle.laws_runs.specs.Untouched.{IsAlike, AgreesOnRunning}
use Rattle.laws_runs.specs.Waits.{IsPlain, state_at}
use Rattle.laws_runs.proofs.Chains.{own_at}
use Rattle.laws_runs.proofs.ListsFit.{HasLists, tested_lists}
use Rattle.laws_runs.proofs.Mid.{tested_by, ticked, unflagged}
use Rattle.laws_runs.proofs.StepOf.{bill_at, tested_at}
use Rattle.laws_runs.proofs.ThreadFacts.{go_on_by, running_within, set_other, set_same}
use Rattle.laws_runs.proofs.ThreadMoves.{alike_state}
use Rattle.laws_runs.proofs.Walk.{tick_kept}

-- ---- own priorities

priority_in : List ThreadNow → ℕ → ℕ
priority_in ts y = (slice_index_or ts y no_thread).own.priority

-- another value of one thread, with the same priority
set_priority : (ts : List ThreadNow) (x y : ℕ) (t : ThreadNow) → t.own.priority ≡ priority_in ts x → priority_in (slice_set ts x t) y ≡ priority_in ts y
unfolding priority_in
set_priority ts x y t same = elim (cases_eq y x) [
  | inr ne ↦ ap (λ (z : ThreadNow). z.own.priority) (set_other ts x y t ne)
  | inl is ↦ elim (cases_lt x (length ts)) [
    | inl below ↦ ap (λ k. (slice_index_or (slice_set ts x t) k no_thread).own.priority) is ∙ ap (λ (z : ThreadNow). z.own.priority) (set_same ts x t below) ∙ same ∙ ap (λ k. (slice_index_or ts k no_thread).own.priority) (sym is)
    | inr past ↦ ap (λ l. (slice_index_or l y no_thread).own.priority) (set_past ts x t past)
  ]
]

-- each thread has the same priority of its own
HasPriorities : SchedulerState → SchedulerState → Type 0
HasPriorities s t = (y : ℕ) → priority_in t.threads y ≡ priority_in s.threads y

woken_priorities : (scenario : Scenario) (s : SchedulerState) (x now : ℕ) → HasPriorities s (go_on scenario s x now)
unfolding HasPriorities priority_in
woken_priorities scenario s x now =
    go_on_by scenario s x now (HasPriorities s)
    (λ t e own y. set_priority s.threads x y _ (ap (λ (f : Facts). f.priority) own))
    (λ t u e own p l y. set_priority s.threads x y t (ap (λ (f : Facts). f.priority) own))

marked_priorities : (s : SchedulerState) (o : Option ℕ) (mark : Option Bool) → HasPriorities s (with_mark s o mark)
unfolding HasPriorities priority_in
marked_priorities s None mark y = refl
marked_priorities s (Some x) None y = refl
marked_priorities s (Some x) (Some on) y = set_priority s.threads x y (record (thread_at s x) { own = record (thread_at s x).own { critical = on } }) refl

done_priorities : (h : List Entry) (j : ℕ) (s : SchedulerState) (k : ℕ × CommandRow) → HasPriorities s (do_command h j s k)
unfolding HasPriorities priority_in
done_priorities h j s (place, row) y =
    marked_priorities s (thread_named row.call) (perform row.call s.rows s.shape (view_of s h j row.call)).mark y

priorities_trans : (s t u : SchedulerState) → HasPriorities s t → HasPriorities t u → HasPriorities s u
unfolding HasPriorities
priorities_trans s t u a b y = b y ∙ a y

spent_priorities : (s : SchedulerState) (ns : ℕ) (running : Option Pick) → HasPriorities s (spend s ns running)
unfolding HasPriorities priority_in
spent_priorities s ns None y = refl
spent_priorities s ns (Some p) y = set_priority s.threads p.thread y _ refl

same_priorities : (s : SchedulerState) → HasPriorities s s
unfolding HasPriorities
same_priorities s y = refl

unflagged_same : (s : SchedulerState) (c : ℕ) → HasPriorities s (unflagged s c)
unfolding HasPriorities
unflagged_same s c y = refl

begun_priorities : (scenario : Scenario) (s : SchedulerState) (h : List Entry) (c now : ℕ) → HasPriorities s (begun scenario s h c now)
begun_priorities scenario s h c now =
    tick_kept scenario now (HasPriorities s)
    (λ t y u m e. priorities_trans s t _ m (woken_priorities scenario t y now))
    (λ g j t k m. priorities_trans s t _ m (done_priorities g j t k))
    (unflagged s c) h (unflagged_same s c)

cancelled : (s r : SchedulerState) (j p : ℕ) → HasPriorities s r → HasPriorities s (cancel r j p)
unfolding HasPriorities
cancelled s r j p m y = m y

tested_priorities : (scenario : Scenario) (s : SchedulerState) (h : List Entry) (c : ℕ) → HasPriorities s (tested_at scenario s h c).state
tested_priorities scenario s h c =
    let e = bill_at s h c in
    let s1 = begun scenario s h c (due s h c) in
    let r = billed s1 e (cpu_at s c).running in
    let spent : HasPriorities s r = priorities_trans s s1 r (begun_priorities scenario s h c (due s h c)) (spent_priorities s1 (e.to - e.from) (cpu_at s c).running) in
    tested_by r.shape.bankruptcy r _ _ (HasPriorities s) spent (λ p. cancelled s r _ p spent)

-- ---- inherited priorities

followed : (i k : Inheritance) (ts : List Triple) (x priority : ℕ) → ((y : ℕ) → (slice_index_or k.own y no_facts).priority ≡ (slice_index_or i.own y no_facts).priority) → k.tops ≡ i.tops
    → (follow k ts x priority).priority ≡ (follow i ts x priority).priority
followed i k [] x priority own tops = ap (λ n. max n priority) (own x)
followed i k (t ∷ older) x priority own tops =
    ap (λ l. (follow k older (cond (nat_eq t.server x) t.client x) (cond (nat_eq t.server x) (max priority (top_at l t.channel)) priority)).priority) tops
    ∙ followed i k older _ _ own tops

same_priority : (s t : SchedulerState) (x : ℕ) → HasLists s t → HasPriorities s t → (facts_of t x).priority ≡ (facts_of s x).priority
unfolding HasPriorities priority_in
same_priority s t x lists own =
    let i = inheritance_of s in
    let k = inheritance_of t in
    ap (λ ts. (follow k ts x 0).priority) lists.triples
    ∙ followed i k s.triples x 0
    (λ y. ap (λ (f : Facts). f.priority) (own_at t.threads y) ∙ own y ∙ ap (λ (f : Facts). f.priority) (sym (own_at s.threads y)))
    (ap (λ cs. (inheritance_of (record t { channels = cs })).tops) lists.channels)

pub priority_before : (scenario : Scenario) (s : SchedulerState) (h : List Entry) (c x : ℕ) → (facts_of (tested_at scenario s h c).state x).priority ≡ (facts_of s x).priority
priority_before scenario s h c x = same_priority s (tested_at scenario s h c).state x (tested_lists scenario s h c) (tested_priorities scenario s h c)

-- ---- the place of who runs

spent_place : (s : SchedulerState) (ns c : ℕ) (p : Pick) → state_at s p.thread ≡ Running c → (thread_at (spend s ns (Some p)) p.thread).place ≡ (thread_at s p.thread).place
spent_place s ns c p run = ap (λ (z : ThreadNow). z.place) (set_same s.threads p.thread _ (running_within s p.thread c run))

pub place_before : (scenario : Scenario) (s : SchedulerState) (h : List Entry) (c : ℕ) (p : Pick) → IsPlain scenario s → AgreesOnRunning s → (cpu_at s c).running ≡ Some p
    → (thread_at (tested_at scenario s h c).state p.thread).place ≡ (thread_at s p.thread).place
place_before scenario s h c p plain kept is =
    let e = bill_at s h c in
    let now = due s h c in
    let s1 = begun scenario s h c now in
    let r = billed s1 e (cpu_at s c).running in
    let run : state_at s p.thread ≡ Running c = kept.runs c p is in
    let tick = ticked scenario (unflagged s c) h now (record { waiting = plain.waiting; channels = plain.channels }) in
    let alike : IsAlike (thread_at s p.thread) (thread_at s1 p.thread) = tick.as_before p.thread c run in
    let run1 : state_at s1 p.thread ≡ Running c = alike_state alike ∙ run in
    let spent : (thread_at r p.thread).place ≡ (thread_at s p.thread).place =
    ap (λ o. (thread_at (spend s1 (e.to - e.from) o) p.thread).place) is ∙ spent_place s1 (e.to - e.from) c p run1 ∙ alike.place in
    tested_by r.shape.bankruptcy r _ _ (λ t. (thread_at t p.thread).place ≡ (thread_at s p.thread).place) spent (λ q. spent)
