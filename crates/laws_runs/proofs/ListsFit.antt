-- What waits and who serves whom keep their ranges through a step.
use Rattle.std.proofs.Common.{◌≡◌, ℕ, zero, suc, ◌-◌, ◌/◌, ◌<◌, ◌≤◌, List, [], ◌∷◌, ◌++◌, length, refl, sym, ◌∙◌, subst, Bool, true, false, cond, nat_eq, Option, Some, None, slice_index_or, slice_set, inl, inr}
use Rattle.std.specs.Prelude.{All}
use Rattle.std.proofs.lemmas.Bool.{cases_eq, cases_lt}
use Rattle.std.proofs.lemmas.List.{get_or-set_other, get_or-set_same, set_past}
use Rattle.std.proofs.lemmas.List.Elements.{All-append, All-cons, All-nil}
use Rattle.aps_model.specs.declared.entry.Entry.{Entry}
use Rattle.aps_model.specs.declared.merit.Contender.{Contender}
use Rattle.aps_model.specs.declared.merit.PartFacts.{PartFacts}
use Rattle.aps_model.specs.declared.program.Op.{Op}
use Rattle.aps_model.specs.declared.program.Op.TheVariants.{Run, Forever, Sleep, Yield, Send, Receive, Reply, Join, Priority, CriticalOn, CriticalOff, Repeat, Exit}
use Rattle.aps_model.specs.declared.state.Pick.{Pick}
use Rattle.aps_model.specs.declared.state.State.{State}
use Rattle.aps_model.specs.declared.state.State.TheVariants.{Ready, Running, Sleeping, Sending, Receiving, Replying, Gone}
use Rattle.aps_model.specs.Limits.{greatest_priority}
use Rattle.laws_runs.specs.Bears.{NamesChannels}
use Rattle.laws_runs.specs.Ids.{AreFactsFit}
use Rattle.laws_runs.specs.ThreadFits.{Each}
use Rattle.laws_runs.proofs.Commands.{command_by}
use Rattle.laws_runs.proofs.EachStep.{IsStanding}
use Rattle.laws_runs.proofs.EachThread.{each_set, go_on_exact}
use Rattle.laws_runs.proofs.Inherits.{all_head, all_more, all_tail, facts_fit}
use Rattle.laws_runs.proofs.Mid.{test_mid, tested_by, unflagged}
use Rattle.laws_runs.proofs.Ranges.{pairs_within}
use Rattle.laws_runs.proofs.StepOf.{bill_at, step_by, tested_at}
use Rattle.laws_runs.proofs.ThreadFacts.{running_within}
use Rattle.laws_runs.proofs.ThreadSteps.{tick_each}
use Rattle.laws_runs.proofs.Walk.{tick_kept}
use Rattle.aps_model.specs.Bill.{spend}
use Rattle.aps_model.specs.Budget.{all_parts}
use Rattle.aps_model.specs.Due.{due}
use Rattle.aps_model.specs.Effect.{effect, joined}
use Rattle.aps_model.specs.Flag.{flag_for, with_flag}
use Rattle.aps_model.specs.Inherit.{client_of, facts_of, without_server}
use Rattle.aps_model.specs.Messages.{first_message, received, received_message, replied, sent, without_sender}
use Rattle.aps_model.specs.Operation.{go_on, is_slice_over, with_stamped}
use Rattle.aps_model.specs.Partition.{partition_named}
use Rattle.aps_model.specs.Pick.{contenders, greatest}
use Rattle.aps_model.specs.Program.{IsPriority}
use Rattle.aps_model.specs.Scenario.{Scenario, op_at, thread_row}
use Rattle.aps_model.specs.SchedulerState.{ChannelNow, Message, SchedulerState, Triple, channel_at, cpu_at, no_channel, thread_at, with_state}
use Rattle.aps_model.specs.Step.{Step, begun, billed, chosen, enter_next, finish_op, give_back, settled, step}

-- a waiting message has a priority, and a triple came by a channel that exists
pub record AreListsFit (channels : ℕ) (cs : List ChannelNow) (ts : List Triple) : Type 0 where
  pub messages : (d : ℕ) → All (λ (m : Message). IsPriority m.priority) (slice_index_or cs d no_channel).messages
  pub triples : All (λ (t : Triple). t.channel < channels) ts

-- the same lists
pub record HasLists (s t : SchedulerState) : Type 0 where
  pub channels : t.channels ≡ s.channels
  pub triples : t.triples ≡ s.triples

pub lists_same : (channels : ℕ) (s t : SchedulerState) → HasLists s t → AreListsFit channels s.channels s.triples → AreListsFit channels t.channels t.triples
lists_same channels s t same m =
    subst (λ cs. AreListsFit channels cs t.triples) (sym same.channels) (subst (AreListsFit channels s.channels) (sym same.triples) m)

lists_trans : (s t u : SchedulerState) → HasLists s t → HasLists t u → HasLists s u
lists_trans s t u a b = record { channels = b.channels ∙ a.channels; triples = b.triples ∙ a.triples }

go_on_lists : (scenario : Scenario) (s : SchedulerState) (y now : ℕ) → HasLists s (go_on scenario s y now)
go_on_lists scenario s y now = go_on_exact scenario s y now (HasLists s) (λ awake. record { channels = refl; triples = refl }) (λ ns is. record { channels = refl; triples = refl })

-- ---- the operation

set_messages : (cs : List ChannelNow) (d : ℕ) (new : ChannelNow) (P : Message → Type 0) → ((e : ℕ) → All P (slice_index_or cs e no_channel).messages) → All P new.messages → (e : ℕ) → All P (slice_index_or (slice_set cs d new) e no_channel).messages
set_messages cs d new P each here e = elim (cases_eq e d) [
  | inr ne ↦ subst (λ (c : ChannelNow). All P c.messages) (sym (get_or-set_other cs d e new no_channel ne)) (each e)
  | inl same ↦ elim (cases_lt d (length cs)) [
    | inl below ↦ subst (λ k. All P (slice_index_or (slice_set cs d new) k no_channel).messages) (sym same) (subst (λ (c : ChannelNow). All P c.messages) (sym (get_or-set_same cs d new no_channel below)) here)
    | inr past ↦ subst (λ l. All P (slice_index_or l e no_channel).messages) (sym (set_past cs d new past)) (each e)
  ]
]

without_sender_all : (P : Message → Type 0) (x : ℕ) (ms : List Message) → All P ms → All P (without_sender x ms)
without_sender_all P x [] each = each
without_sender_all P x (m ∷ ms) each = by_test (nat_eq m.sender x) (all_head P m ms each) (all_tail P m ms each) (without_sender_all P x ms (all_tail P m ms each))
  where
    by_test : (t : Bool) → P m → All P ms → All P (without_sender x ms) → All P (cond t ms (m ∷ without_sender x ms))
    by_test true here rest less = rest
    by_test false here rest less = All-cons P m (without_sender x ms) here less

without_server_all : (P : Triple → Type 0) (x : ℕ) (ts : List Triple) → All P ts → All P (without_server ts x)
without_server_all P x [] each = each
without_server_all P x (t ∷ ts) each = by_test (nat_eq t.server x) (all_head P t ts each) (all_tail P t ts each) (without_server_all P x ts (all_tail P t ts each))
  where
    by_test : (is : Bool) → P t → All P ts → All P (without_server ts x) → All P (cond is ts (t ∷ without_server ts x))
    by_test true here rest less = rest
    by_test false here rest less = All-cons P t (without_server ts x) here less

abbrev ListsOf : ℕ → SchedulerState → Type 0
ListsOf channels s = AreListsFit channels s.channels s.triples

sent_lists : (scenario : Scenario) (channels : ℕ) (s : SchedulerState) (x d now : ℕ) (rs : List ℕ) → d < channels → IsPriority (facts_of s x).priority → ListsOf channels s → ListsOf channels (sent scenario s x d now rs).state
sent_lists scenario channels s x d now [] known priority m = record {
  messages = set_messages s.channels d _ (λ (k : Message). IsPriority k.priority) m.messages
      (All-append (λ (k : Message). IsPriority k.priority) (channel_at s d).messages (record { sender = x; priority = (facts_of s x).priority } ∷ []) (m.messages d)
      (All-cons (λ (k : Message). IsPriority k.priority) (record { sender = x; priority = (facts_of s x).priority }) [] priority (All-nil (λ (k : Message). IsPriority k.priority))));
  triples = m.triples;
}
sent_lists scenario channels s x d now (r ∷ rest) known priority m =
    let mid = with_state (record s { triples = record { server = r; client = x; channel = d } ∷ s.triples; channels = slice_set s.channels d (record (channel_at s d) { receivers = rest }) }) x (Replying r) in
    lists_same channels mid (go_on scenario mid r now) (go_on_lists scenario mid r now) (record {
      messages = set_messages s.channels d (record (channel_at s d) { receivers = rest }) (λ (k : Message). IsPriority k.priority) m.messages (m.messages d);
      triples = All-cons (λ (t : Triple). t.channel < channels) (record { server = r; client = x; channel = d }) s.triples known m.triples;
    })

received_lists : (channels : ℕ) (s : SchedulerState) (x d : ℕ) (o : Option Message) → d < channels → ListsOf channels s → ListsOf channels (received_message s x d o).state
received_lists channels s x d None known m = record { messages = set_messages s.channels d _ (λ (k : Message). IsPriority k.priority) m.messages (m.messages d); triples = m.triples }
received_lists channels s x d (Some msg) known m = record {
  messages = set_messages s.channels d _ (λ (k : Message). IsPriority k.priority) m.messages (without_sender_all (λ (k : Message). IsPriority k.priority) msg.sender (channel_at s d).messages (m.messages d));
  triples = All-cons (λ (t : Triple). t.channel < channels) (record { server = x; client = msg.sender; channel = d }) s.triples known m.triples;
}

received_if_lists : (channels : ℕ) (s : SchedulerState) (x d : ℕ) (o : Option ℕ) → d < channels → ListsOf channels s → ListsOf channels (received s x d o).state
received_if_lists channels s x d None known m = received_lists channels s x d (first_message (channel_at s d).messages) known m
received_if_lists channels s x d (Some client) known m = m

replied_lists : (scenario : Scenario) (channels : ℕ) (s : SchedulerState) (x now : ℕ) (o : Option ℕ) → ListsOf channels s → ListsOf channels (replied scenario s x now o).state
replied_lists scenario channels s x now None m = m
replied_lists scenario channels s x now (Some y) m =
    let mid : SchedulerState = record s { triples = without_server s.triples x } in
    lists_same channels mid (go_on scenario mid y now) (go_on_lists scenario mid y now) (record { messages = m.messages; triples = without_server_all (λ (t : Triple). t.channel < channels) x s.triples m.triples })

joined_lists : (channels : ℕ) (s : SchedulerState) (x : ℕ) (o : Option ℕ) → ListsOf channels s → ListsOf channels (joined s x o).state
joined_lists channels s x None m = m
joined_lists channels s x (Some p) m = record { messages = m.messages; triples = m.triples }

effect_lists : (scenario : Scenario) → NamesChannels scenario → (s : SchedulerState) (x now place : ℕ) (op : Op) → op_at scenario x place ≡ op → IsPriority (facts_of s x).priority → ListsOf (length scenario.channels) s
    → ListsOf (length scenario.channels) (effect scenario s x now op).state
effect_lists scenario names s x now place (Run ns) is priority m = m
effect_lists scenario names s x now place Forever is priority m = m
effect_lists scenario names s x now place (Sleep ns) is priority m = m
effect_lists scenario names s x now place Yield is priority m = record { messages = m.messages; triples = m.triples }
effect_lists scenario names s x now place (Send d) is priority m = sent_lists scenario (length scenario.channels) s x d now (channel_at s d).receivers (names.sends x place d is) priority m
effect_lists scenario names s x now place (Receive d) is priority m = received_if_lists (length scenario.channels) s x d (client_of s.triples x) (names.receives x place d is) m
effect_lists scenario names s x now place Reply is priority m = replied_lists scenario (length scenario.channels) s x now (client_of s.triples x) m
effect_lists scenario names s x now place (Join name) is priority m = joined_lists (length scenario.channels) s x (partition_named s.rows name) m
effect_lists scenario names s x now place (Priority n) is priority m = record { messages = m.messages; triples = m.triples }
effect_lists scenario names s x now place CriticalOn is priority m = record { messages = m.messages; triples = m.triples }
effect_lists scenario names s x now place CriticalOff is priority m = record { messages = m.messages; triples = m.triples }
effect_lists scenario names s x now place Repeat is priority m = m
effect_lists scenario names s x now place Exit is priority m =
    let done = replied_lists scenario (length scenario.channels) s x now (client_of s.triples x) m in
    record { messages = done.messages; triples = done.triples }

same_lists : (s : SchedulerState) → HasLists s s
same_lists s = record { channels = refl; triples = refl }

entered_lists : (scenario : Scenario) (s : SchedulerState) (x now : ℕ) (op : Op) (st : State) → HasLists s (enter_next scenario s x now op st)
entered_lists scenario s x now op (Running c) = record { channels = refl; triples = refl }
entered_lists scenario s x now op Ready = same_lists s
entered_lists scenario s x now op (Sleeping until) = same_lists s
entered_lists scenario s x now op (Sending d) = same_lists s
entered_lists scenario s x now op (Receiving d) = same_lists s
entered_lists scenario s x now op (Replying y) = same_lists s
entered_lists scenario s x now op Gone = same_lists s

given_lists : (scenario : Scenario) (s : SchedulerState) (x : ℕ) (st : State) → HasLists s (give_back scenario s x st)
given_lists scenario s x (Running c) = by_slice (is_slice_over s.shape (thread_row scenario x).policy (thread_at s x).since)
  where
    by_slice : (over : Bool) → HasLists s (cond over (with_stamped s x (record (thread_at s x) { state = Ready })) (with_state s x Ready))
    by_slice true = record { channels = refl; triples = refl }
    by_slice false = record { channels = refl; triples = refl }
given_lists scenario s x Ready = same_lists s
given_lists scenario s x (Sleeping until) = same_lists s
given_lists scenario s x (Sending d) = same_lists s
given_lists scenario s x (Receiving d) = same_lists s
given_lists scenario s x (Replying y) = same_lists s
given_lists scenario s x Gone = same_lists s

finished_lists : (scenario : Scenario) → NamesChannels scenario → (s : SchedulerState) (x now : ℕ) (left : Option ℕ) → IsPriority (facts_of s x).priority → ListsOf (length scenario.channels) s
    → ListsOf (length scenario.channels) (finish_op scenario s x now left).state
finished_lists scenario names s x now None priority m = m
finished_lists scenario names s x now (Some (suc n)) priority m = m
finished_lists scenario names s x now (Some zero) priority m =
    let op = op_at scenario x (thread_at s x).place in
    let did = (effect scenario s x now op).state in
    lists_same (length scenario.channels) did (enter_next scenario did x now op (thread_at did x).state) (entered_lists scenario did x now op (thread_at did x).state)
    (effect_lists scenario names s x now (thread_at s x).place op refl priority m)

pub settled_lists : (scenario : Scenario) → NamesChannels scenario → (s : SchedulerState) (now : ℕ) (running : Option Pick) → ((p : Pick) → running ≡ Some p → IsPriority (facts_of s p.thread).priority) → ListsOf (length scenario.channels) s
    → ListsOf (length scenario.channels) (settled scenario s now running).state
settled_lists scenario names s now None priority m = m
settled_lists scenario names s now (Some p) priority m =
    let did = (finish_op scenario s p.thread now (thread_at s p.thread).left).state in
    lists_same (length scenario.channels) did (give_back scenario did p.thread (thread_at did p.thread).state) (given_lists scenario did p.thread (thread_at did p.thread).state)
    (finished_lists scenario names s p.thread now (thread_at s p.thread).left (priority p refl) m)

-- ---- before the operation nothing waits or serves anew

spent_lists : (s : SchedulerState) (ns : ℕ) (running : Option Pick) → HasLists s (spend s ns running)
spent_lists s ns None = same_lists s
spent_lists s ns (Some p) = record { channels = refl; triples = refl }

pub begun_lists : (scenario : Scenario) (s : SchedulerState) (h : List Entry) (c now : ℕ) → HasLists s (begun scenario s h c now)
begun_lists scenario s h c now =
    tick_kept scenario now (HasLists s) (λ t y u m st. lists_trans s t _ m (go_on_lists scenario t y now))
    (λ k j t row m. command_by k j t row (HasLists s) (HasLists s) (λ mid rows shape replies changes q sizes. record { channels = q.channels; triples = q.triples }) m (λ x own. record { channels = m.channels; triples = m.triples })) (unflagged s c) h
    (record { channels = refl; triples = refl })

pub tested_lists : (scenario : Scenario) (s : SchedulerState) (h : List Entry) (c : ℕ) → HasLists s (tested_at scenario s h c).state
tested_lists scenario s h c =
    let e = bill_at s h c in
    let s1 = begun scenario s h c (due s h c) in
    let r = billed s1 e (cpu_at s c).running in
    let spent : HasLists s r = lists_trans s s1 r (begun_lists scenario s h c (due s h c)) (spent_lists s1 (e.to - e.from) (cpu_at s c).running) in
    tested_by r.shape.bankruptcy r _ _ (HasLists s) spent (λ p. record { channels = spent.channels; triples = spent.triples })

-- own values keep their ranges so far
tested_own : (scenario : Scenario) (s : SchedulerState) (h : List Entry) (c rows : ℕ) → s.shape.call_ns ≡ scenario.shape.call_ns → Each (λ y t. AreFactsFit rows t.own) s.threads → Each (λ y t. AreFactsFit rows t.own) (tested_at scenario s h c).state.threads
tested_own scenario s h c rows call m =
    let e = bill_at s h c in
    let s1 = begun scenario s h c (due s h c) in
    let r = billed s1 e (cpu_at s c).running in
    let ticked = tick_each scenario (due s h c) (λ y t. AreFactsFit rows t.own) (record { readies = λ shape y n t k f may awake. f; sleeps = λ y ns t f may is. f }) (λ y on t f. record { partition = f.partition; priority = f.priority }) (unflagged s c) h call m in
    let spent = by_running s1 (e.to - e.from) (cpu_at s c).running ticked in
    tested_by r.shape.bankruptcy r _ _ (λ t. Each (λ y u. AreFactsFit rows u.own) t.threads) spent (λ p. spent)
  where
    by_running : (s1 : SchedulerState) (ns : ℕ) (running : Option Pick) → Each (λ y t. AreFactsFit rows t.own) s1.threads → Each (λ y t. AreFactsFit rows t.own) (spend s1 ns running).threads
    by_running s1 ns None n = n
    by_running s1 ns (Some p) n = each_set (λ y t. AreFactsFit rows t.own) s1.threads p.thread _ n (λ below. n p.thread below)

chosen_lists : (s : SchedulerState) (ps : List PartFacts) (c : ℕ) (best : Option Contender) → HasLists s (chosen s ps c best)
chosen_lists s ps c None = record { channels = refl; triples = refl }
chosen_lists s ps c (Some b) = record { channels = refl; triples = refl }

flagged_lists : (s : SchedulerState) (now : ℕ) (o : Option ℕ) → HasLists s (with_flag s now o)
flagged_lists s now None = same_lists s
flagged_lists s now (Some d) = record { channels = refl; triples = refl }

pub step_lists : (scenario : Scenario) (s : SchedulerState) (h : List Entry) (c rows : ℕ) → IsStanding scenario s c → Each (λ y t. AreFactsFit rows t.own) s.threads → ListsOf (length scenario.channels) s → ListsOf (length scenario.channels) (step scenario s h c).state
step_lists scenario s h c rows st own m =
    let now = due s h c in
    let running = (cpu_at s c).running in
    let channels = length scenario.channels in
    let s3 = (tested_at scenario s h c).state in
    let mid = test_mid scenario s h c now (bill_at s h c) running st.plain st.kept refl in
    let lists : ListsOf channels s3 = lists_same channels s s3 (tested_lists scenario s h c) m in
    let own3 = tested_own scenario s h c rows st.call own in
    step_by scenario s h c (λ (out : Step). ListsOf channels out.state) (λ o why. lists)
    (λ early.
    let did = settled scenario s3 now running in
    let r = did.state in
    let ps = all_parts r.shape r.rows (h ++ (record (bill_at s h c) { done = did.done }) ∷ []) (now / r.shape.tick) in
    let best = greatest r.shape.free ps (contenders r) in
    let q = chosen r ps c best in
    lists_same channels r _ (lists_trans r q _ (chosen_lists r ps c best) (flagged_lists q now (flag_for q h ps c now (greatest r.shape.free ps (contenders q)))))
    (settled_lists scenario st.names s3 now running (λ p e.
    (facts_fit s3 rows p.thread own3 (λ d. all_more (λ (k : Message). IsPriority k.priority) (λ (k : Message). k.priority ≤ greatest_priority) (channel_at s3 d).messages (λ k f. f.few) (lists.messages d))
    (all_more (λ (t : Triple). (t.server < length s3.threads) × (t.client < length s3.threads)) (λ (t : Triple). t.client < length s3.threads) s3.triples (λ t f. f.1) (pairs_within s3 mid.mid.plain.waiting))
    (running_within s3 p.thread c (mid.runs p e))).priority) lists))
