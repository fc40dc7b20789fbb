-- A property of each thread by itself, through a step: like Walk, with all that is known of the one thread that is set.
use Rattle.std.proofs.Common.{◌≡◌, ◌≢◌, ℕ, ◌<◌, ◌≤◌, zero, suc, List, [], ◌∷◌, length, refl, sym, ◌∙◌, ap, subst, Bool, true, false, cond, nat_lt, Option, Some, None, slice_index_or, slice_set, arith, inl, inr, ◌⊎◌, length-set}
use Rattle.std.specs.List.{position, position_or_len}
use Rattle.std.specs.Str.{bytes_eq}
use Rattle.std.proofs.lemmas.Bool.{ltb-true}
use Rattle.aps_model.specs.declared.program.Op.{Op}
use Rattle.aps_model.specs.declared.program.Op.TheVariants.{Run, Forever, Sleep, Yield, Send, Receive, Reply, Join, Priority, CriticalOn, CriticalOff, Repeat, Exit}
use Rattle.aps_model.specs.declared.shape.Shape.{Shape}
use Rattle.aps_model.specs.declared.state.State.{State}
use Rattle.aps_model.specs.declared.state.State.TheVariants.{Ready, Running, Sleeping, Sending, Receiving, Replying, Gone}
use Rattle.aps_model.specs.declared.state.ThreadNow.{ThreadNow}
use Rattle.aps_model.specs.declared.state.Pick.{Pick}
use Rattle.aps_model.specs.declared.entry.Entry.{Entry}
use Rattle.aps_model.specs.declared.command.CommandRow.{CommandRow}
use Rattle.laws_runs.specs.ThreadFits.{Each}
use Rattle.laws_runs.specs.Waits.{IsPlain, state_at}
use Rattle.laws_runs.specs.Bears.{NamesChannels}
use Rattle.laws_runs.proofs.EachThread.{GoesOn, MayGoOn, awake_in, each_beside, each_set, each_whole, go_on_count, go_on_each, go_on_shape, sleep_or_awake}
use Rattle.laws_runs.proofs.ThreadFacts.{within, set_same, set_other, running_within}
use Rattle.laws_runs.proofs.WaitFacts.{first_receives, first_sends, client_replies}
use Rattle.laws_runs.proofs.Walk.{IsOff, IsOnOrOff, effect_kept, go_on_other, tick_kept}
use Rattle.laws_runs.proofs.WaitBears.{plain_bears}
use Rattle.laws_runs.proofs.Mid.{IsFramed, framed_bears}
use Rattle.laws_runs.proofs.Commands.{command_by, sizes_same}
use Rattle.aps_model.specs.Effect.{effect, joined}
use Rattle.aps_model.specs.Inherit.{client_of, without_server}
use Rattle.aps_model.specs.Messages.{first_message, received, received_message, replied, sent}
use Rattle.aps_model.specs.Operation.{enter, go_on, is_slice_over, place_after, state_in, with_stamped}
use Rattle.aps_model.specs.Partition.{partition_named}
use Rattle.aps_model.specs.Scenario.{Scenario, op_at, thread_row}
use Rattle.aps_model.specs.SchedulerState.{Message, SchedulerState, channel_at, no_thread, thread_at, with_state}
use Rattle.aps_model.specs.Step.{enter_next, finish_op, give_back, settled}
use Rattle.aps_model.specs.TickWork.{do_command, tick_work, thread_named, view_of, with_mark}
use Rattle.aps_model.specs.Command.{perform}
use Rattle.aps_model.specs.declared.partition.PartitionRow.{PartitionRow}

-- a property of all threads but x
abbrev pub Beside : ℕ → (ℕ → ThreadNow → Type 0) → ℕ → ThreadNow → Type 0
Beside x Q y t = y ≢ x → Q y t

-- what two properties have to bear where processor c runs x and there are so many rows: Q is of each thread, and R
-- of x from its bill to the end of its operation
pub record ThreadBears (scenario : Scenario) (now c x rows : ℕ) (Q R : ℕ → ThreadNow → Type 0) : Type 0 where
  pub going : GoesOn scenario now Q
  pub delivered : (y d : ℕ) (t : ThreadNow) → Q y t → t.state ≡ Sending d → Q y (record t { state = Replying x })
  pub marked : (on : Bool) (t : ThreadNow) → R x t → R x (record t { own = record t.own { critical = on } })
  pub stamped : (n : ℕ) (t : ThreadNow) → R x t → R x (record t { stamp = n; since = 0 })
  pub prioritized : (n : ℕ) (t : ThreadNow) → R x t → op_at scenario x t.place ≡ Priority n → R x (record t { own = record t.own { priority = n } })
  pub joins : (p : ℕ) (t : ThreadNow) → R x t → p < rows → R x (record t { own = record t.own { partition = p } })
  pub stays : (t : ThreadNow) → R x t → t.state ≡ Running c → t.left ≢ Some 0 → Q x t
  pub enters : (shape : Shape) (op : Op) (t : ThreadNow) → shape.call_ns ≡ scenario.shape.call_ns → R x t → t.state ≡ Running c → t.left ≡ Some 0 → op_at scenario x t.place ≡ op → op ≢ Exit
      → Q x (enter scenario shape x (place_after op t.place) now (Running c) t)
  pub sends : (d : ℕ) (t : ThreadNow) → R x t → op_at scenario x t.place ≡ Send d → Q x (record t { state = Sending d })
  pub waits : (d r : ℕ) (t : ThreadNow) → R x t → op_at scenario x t.place ≡ Send d → Q x (record t { state = Replying r })
  pub receives : (d : ℕ) (t : ThreadNow) → R x t → op_at scenario x t.place ≡ Receive d → Q x (record t { state = Receiving d })
  pub leaves : (t : ThreadNow) → R x t → op_at scenario x t.place ≡ Exit → Q x (record t { state = Gone })
  pub back : (t : ThreadNow) → Q x t → t.state ≡ Running c → Q x (record t { state = Ready })
  pub back_stamped : (n : ℕ) (t : ThreadNow) → Q x t → t.state ≡ Running c → Q x (record t { state = Ready; stamp = n; since = 0 })

-- ---- the effect of an operation

-- x goes on as it was, in its own values alone another one, and its operation was no exit
pub record IsStill (c x : ℕ) (R : ℕ → ThreadNow → Type 0) (op : Op) (before after : ThreadNow) : Type 0 where
  pub holds : R x after
  pub runs : after.state ≡ Running c
  pub place : after.place ≡ before.place
  pub left : after.left ≡ before.left
  pub going : op ≢ Exit

pub record IsDone (c x : ℕ) (Q R : ℕ → ThreadNow → Type 0) (op : Op) (ts us : List ThreadNow) : Type 0 where
  pub others : Each (Beside x Q) us
  pub own : IsStill c x R op (slice_index_or ts x no_thread) (slice_index_or us x no_thread) ⊎ (Q x (slice_index_or us x no_thread) × IsOff (slice_index_or us x no_thread).state)
  pub count : length us ≡ length ts

still_set : (c x : ℕ) (Q R : ℕ → ThreadNow → Type 0) (op : Op) (ts : List ThreadNow) (t : ThreadNow) → x < length ts → Each (Beside x Q) ts
    → R x t → t.state ≡ Running c → t.place ≡ (slice_index_or ts x no_thread).place → t.left ≡ (slice_index_or ts x no_thread).left → op ≢ Exit → IsDone c x Q R op ts (slice_set ts x t)
still_set c x Q R op ts t below m holds runs place left going = record {
  others = each_beside Q ts x t m;
  own = inl (subst (λ (u : ThreadNow). IsStill c x R op (slice_index_or ts x no_thread) u) (sym (set_same ts x t below)) (record { holds = holds; runs = runs; place = place; left = left; going = going }));
  count = length-set ts x t;
}

still_same : (c x : ℕ) (Q R : ℕ → ThreadNow → Type 0) (op : Op) (ts : List ThreadNow) → Each (Beside x Q) ts → R x (slice_index_or ts x no_thread) → (slice_index_or ts x no_thread).state ≡ Running c → op ≢ Exit → IsDone c x Q R op ts ts
still_same c x Q R op ts m holds runs going = record { others = m; own = inl (record { holds = holds; runs = runs; place = refl; left = refl; going = going }); count = refl }

off_set : (c x : ℕ) (Q R : ℕ → ThreadNow → Type 0) (op : Op) (ts : List ThreadNow) (t : ThreadNow) → x < length ts → Each (Beside x Q) ts → Q x t → IsOff t.state → IsDone c x Q R op ts (slice_set ts x t)
off_set c x Q R op ts t below m holds off = record {
  others = each_beside Q ts x t m;
  own = inr (subst (λ (u : ThreadNow). Q x u × IsOff u.state) (sym (set_same ts x t below)) (holds, off));
  count = length-set ts x t;
}

beside_goes : (scenario : Scenario) (now x : ℕ) (Q : ℕ → ThreadNow → Type 0) → GoesOn scenario now Q → GoesOn scenario now (Beside x Q)
beside_goes scenario now x Q g = record {
  readies = λ shape y n t call m may awake ne. g.readies shape y n t call (m ne) may awake;
  sleeps = λ y ns t m may is ne. g.sleeps y ns t (m ne) may is;
}

-- then another thread goes on
done_go_on : (scenario : Scenario) (now c x : ℕ) (Q R : ℕ → ThreadNow → Type 0) (op : Op) (ts : List ThreadNow) (mid : SchedulerState) (y : ℕ) → GoesOn scenario now Q → mid.shape.call_ns ≡ scenario.shape.call_ns → y ≢ x
    → MayGoOn (state_at mid y) → y < length mid.threads → IsDone c x Q R op ts mid.threads → IsDone c x Q R op ts (go_on scenario mid y now).threads
done_go_on scenario now c x Q R op ts mid y g call ne may below d =
    let same : thread_at (go_on scenario mid y now) x ≡ thread_at mid x = go_on_other scenario mid y now x (λ e. ne (sym e)) in
    record {
      others = go_on_each scenario now (Beside x Q) (beside_goes scenario now x Q g) mid y call below may d.others;
      own = subst (λ (u : ThreadNow). IsStill c x R op (slice_index_or ts x no_thread) u ⊎ (Q x u × IsOff u.state)) (sym same) d.own;
      count = go_on_count scenario mid y now ∙ d.count;
    }

-- all that is known before the effect
pub record IsReadyTo (scenario : Scenario) (c x rows : ℕ) (Q R : ℕ → ThreadNow → Type 0) (s : SchedulerState) : Type 0 where
  pub plain : IsPlain scenario s
  pub call : s.shape.call_ns ≡ scenario.shape.call_ns
  pub few : length s.rows ≤ rows
  pub others : Each (Beside x Q) s.threads
  pub own : R x (thread_at s x)
  pub runs : state_at s x ≡ Running c

sent_each : (scenario : Scenario) (now c x rows : ℕ) (Q R : ℕ → ThreadNow → Type 0) → ThreadBears scenario now c x rows Q R → (s : SchedulerState) → IsReadyTo scenario c x rows Q R s → (op : Op) (d : ℕ) (rs : List ℕ)
    → op_at scenario x (thread_at s x).place ≡ Send d → (channel_at s d).receivers ≡ rs → IsDone c x Q R op s.threads (sent scenario s x d now rs).state.threads
sent_each scenario now c x rows Q R b s m op d [] is e =
    off_set c x Q R op s.threads _ (running_within s x c m.runs) m.others (b.sends d (thread_at s x) m.own is) (λ k f. cc)
sent_each scenario now c x rows Q R b s m op d (r ∷ rest) is e =
    let there : state_at s r ≡ Receiving d = first_receives m.plain.waiting d r rest e in
    let ne : r ≢ x = λ same. differs (sym m.runs ∙ ap (state_at s) (sym same) ∙ there) in
    let mid = with_state (record s { triples = record { server = r; client = x; channel = d } ∷ s.triples; channels = slice_set s.channels d (record (channel_at s d) { receivers = rest }) }) x (Replying r) in
    let at : state_at mid r ≡ Receiving d = ap (λ (z : ThreadNow). z.state) (set_other s.threads x r _ ne) ∙ there in
    done_go_on scenario now c x Q R op s.threads mid r b.going m.call ne (subst MayGoOn (sym at) tt) (within mid.threads r (λ g. cc))
    (off_set c x Q R op s.threads _ (running_within s x c m.runs) m.others (b.waits d r (thread_at s x) m.own is) (λ k f. cc))
  where
    differs : {a b : ℕ} → ◌≡◌ {A = State} (Running a) (Receiving b) → ⊥
    differs e = cc

received_each : (scenario : Scenario) (now c x rows : ℕ) (Q R : ℕ → ThreadNow → Type 0) → ThreadBears scenario now c x rows Q R → (s : SchedulerState) → IsReadyTo scenario c x rows Q R s → (op : Op) (d : ℕ) (o : Option Message)
    → op ≢ Exit → op_at scenario x (thread_at s x).place ≡ Receive d → first_message (channel_at s d).messages ≡ o → IsDone c x Q R op s.threads (received_message s x d o).state.threads
received_each scenario now c x rows Q R b s m op d None going is e =
    off_set c x Q R op s.threads _ (running_within s x c m.runs) m.others (b.receives d (thread_at s x) m.own is) (λ k f. cc)
received_each scenario now c x rows Q R b s m op d (Some msg) going is e =
    let there : state_at s msg.sender ≡ Sending d = first_sends m.plain.waiting d msg e in
    let ne : x ≢ msg.sender = λ same. differs (sym m.runs ∙ ap (state_at s) same ∙ there) in
    let t : ThreadNow = record (thread_at s msg.sender) { state = Replying x } in
    let same : slice_index_or (slice_set s.threads msg.sender t) x no_thread ≡ thread_at s x = set_other s.threads msg.sender x t ne in
    record {
      others = each_set (Beside x Q) s.threads msg.sender t m.others (λ at other. b.delivered msg.sender d (thread_at s msg.sender) (m.others msg.sender at other) there);
      own = inl (subst (λ (u : ThreadNow). IsStill c x R op (thread_at s x) u) (sym same) (record { holds = m.own; runs = m.runs; place = refl; left = refl; going = going }));
      count = length-set s.threads msg.sender t;
    }
  where
    differs : {a b : ℕ} → ◌≡◌ {A = State} (Running a) (Sending b) → ⊥
    differs e = cc

received_if_each : (scenario : Scenario) (now c x rows : ℕ) (Q R : ℕ → ThreadNow → Type 0) → ThreadBears scenario now c x rows Q R → (s : SchedulerState) → IsReadyTo scenario c x rows Q R s → (op : Op) (d : ℕ) (o : Option ℕ)
    → op ≢ Exit → op_at scenario x (thread_at s x).place ≡ Receive d → IsDone c x Q R op s.threads (received s x d o).state.threads
received_if_each scenario now c x rows Q R b s m op d (Some client) going is = still_same c x Q R op s.threads m.others m.own m.runs going
received_if_each scenario now c x rows Q R b s m op d None going is = received_each scenario now c x rows Q R b s m op d _ going is refl

-- a reply leaves x as it is
record IsReplied (c x : ℕ) (Q : ℕ → ThreadNow → Type 0) (ts us : List ThreadNow) : Type 0 where
  others : Each (Beside x Q) us
  same : slice_index_or us x no_thread ≡ slice_index_or ts x no_thread
  count : length us ≡ length ts

replied_each : (scenario : Scenario) (now c x rows : ℕ) (Q R : ℕ → ThreadNow → Type 0) → ThreadBears scenario now c x rows Q R → (s : SchedulerState) → IsReadyTo scenario c x rows Q R s → (o : Option ℕ)
    → client_of s.triples x ≡ o → IsReplied c x Q s.threads (replied scenario s x now o).state.threads
replied_each scenario now c x rows Q R b s m None e = record { others = m.others; same = refl; count = refl }
replied_each scenario now c x rows Q R b s m (Some y) e =
    let there : state_at s y ≡ Replying x = client_replies m.plain.waiting x y e in
    let ne : y ≢ x = λ same. differs (sym m.runs ∙ ap (state_at s) (sym same) ∙ there) in
    let mid : SchedulerState = record s { triples = without_server s.triples x } in
    record {
      others = go_on_each scenario now (Beside x Q) (beside_goes scenario now x Q b.going) mid y m.call (within s.threads y (λ g. cc)) (subst MayGoOn (sym there) tt) m.others;
      same = go_on_other scenario mid y now x (λ e. ne (sym e));
      count = go_on_count scenario mid y now;
    }
  where
    differs : {a b : ℕ} → ◌≡◌ {A = State} (Running a) (Replying b) → ⊥
    differs e = cc

joined_each : (scenario : Scenario) (now c x rows : ℕ) (Q R : ℕ → ThreadNow → Type 0) → ThreadBears scenario now c x rows Q R → (s : SchedulerState) → IsReadyTo scenario c x rows Q R s → (op : Op) (o : Option ℕ)
    → op ≢ Exit → ((p : ℕ) → o ≡ Some p → p < rows) → IsDone c x Q R op s.threads (joined s x o).state.threads
joined_each scenario now c x rows Q R b s m op None going found = still_same c x Q R op s.threads m.others m.own m.runs going
joined_each scenario now c x rows Q R b s m op (Some p) going found =
    still_set c x Q R op s.threads _ (running_within s x c m.runs) m.others (b.joins p (thread_at s x) m.own (found p refl)) m.runs refl refl going

-- what is found stands in the list
pub found_within : {X : Type 0} (f : X → Bool) (xs : List X) (p : ℕ) → position f xs ≡ Some p → p < length xs
found_within f xs p e = by_test (nat_lt (position_or_len f xs) (length xs)) refl e
  where
    some_same : (a b : ℕ) → Some a ≡ Some b → a ≡ b
    some_same a b k = cc

    by_test : (t : Bool) → nat_lt (position_or_len f xs) (length xs) ≡ t → cond t (Some (position_or_len f xs)) None ≡ Some p → p < length xs
    by_test true is k = subst (λ n. n < length xs) (some_same (position_or_len f xs) p k) (ltb-true (position_or_len f xs) (length xs) is)
    by_test false is k = absurd cc

effect_each : (scenario : Scenario) (now c x rows : ℕ) (Q R : ℕ → ThreadNow → Type 0) → ThreadBears scenario now c x rows Q R → (s : SchedulerState) → IsReadyTo scenario c x rows Q R s → (op : Op)
    → op_at scenario x (thread_at s x).place ≡ op → IsDone c x Q R op s.threads (effect scenario s x now op).state.threads
effect_each scenario now c x rows Q R b s m (Run ns) is = still_same c x Q R _ s.threads m.others m.own m.runs (λ e. cc)
effect_each scenario now c x rows Q R b s m Forever is = still_same c x Q R _ s.threads m.others m.own m.runs (λ e. cc)
effect_each scenario now c x rows Q R b s m (Sleep ns) is = still_same c x Q R _ s.threads m.others m.own m.runs (λ e. cc)
effect_each scenario now c x rows Q R b s m Yield is =
    still_set c x Q R _ s.threads _ (running_within s x c m.runs) m.others (b.stamped s.stamps (thread_at s x) m.own) m.runs refl refl (λ e. cc)
effect_each scenario now c x rows Q R b s m (Send d) is = sent_each scenario now c x rows Q R b s m _ d _ is refl
effect_each scenario now c x rows Q R b s m (Receive d) is = received_if_each scenario now c x rows Q R b s m _ d _ (λ e. cc) is
effect_each scenario now c x rows Q R b s m Reply is =
    let r = replied_each scenario now c x rows Q R b s m (client_of s.triples x) refl in
    record {
      others = r.others;
      own = inl (subst (λ (u : ThreadNow). IsStill c x R Reply (thread_at s x) u) (sym r.same) (record { holds = m.own; runs = m.runs; place = refl; left = refl; going = λ e. cc }));
      count = r.count;
    }
effect_each scenario now c x rows Q R b s m (Join name) is =
    joined_each scenario now c x rows Q R b s m _ (partition_named s.rows name) (λ e. cc) (λ p e. let l = found_within (λ (row : PartitionRow). bytes_eq row.name name) s.rows p e in omega (arith, l, m.few))
effect_each scenario now c x rows Q R b s m (Priority n) is =
    still_set c x Q R _ s.threads _ (running_within s x c m.runs) m.others
    (b.stamped s.stamps (record (thread_at s x) { own = record (thread_at s x).own { priority = n } }) (b.prioritized n (thread_at s x) m.own is)) m.runs refl refl (λ e. cc)
effect_each scenario now c x rows Q R b s m CriticalOn is = still_set c x Q R _ s.threads _ (running_within s x c m.runs) m.others (b.marked true (thread_at s x) m.own) m.runs refl refl (λ e. cc)
effect_each scenario now c x rows Q R b s m CriticalOff is = still_set c x Q R _ s.threads _ (running_within s x c m.runs) m.others (b.marked false (thread_at s x) m.own) m.runs refl refl (λ e. cc)
effect_each scenario now c x rows Q R b s m Repeat is = still_same c x Q R _ s.threads m.others m.own m.runs (λ e. cc)
effect_each scenario now c x rows Q R b s m Exit is =
    let r = replied_each scenario now c x rows Q R b s m (client_of s.triples x) refl in
    let mid = (replied scenario s x now (client_of s.triples x)).state in
    let below : x < length mid.threads = subst (λ n. x < n) (sym r.count) (running_within s x c m.runs) in
    let own : R x (thread_at mid x) = subst (R x) (sym r.same) m.own in
    let at : op_at scenario x (thread_at mid x).place ≡ Exit = ap (λ (u : ThreadNow). op_at scenario x u.place) r.same ∙ is in
    let t : ThreadNow = record (thread_at mid x) { state = Gone } in
    record {
      others = each_beside Q mid.threads x t r.others;
      own = inr (subst (λ (u : ThreadNow). Q x u × IsOff u.state) (sym (set_same mid.threads x t below)) (b.leaves (thread_at mid x) own at, λ k f. cc));
      count = length-set mid.threads x t ∙ r.count;
    }

-- ---- the next operation

-- x is in its next operation, or waits; all threads have Q
record IsEntered (c x : ℕ) (Q : ℕ → ThreadNow → Type 0) (us : List ThreadNow) : Type 0 where
  each : Each Q us
  own : IsOnOrOff c (slice_index_or us x no_thread).state

entered_on : (op : Op) (now c : ℕ) → IsOnOrOff c (state_in op now (Running c))
entered_on op now c = elim (sleep_or_awake op) [
  | inl s ↦ inr (subst (λ o. IsOff (state_in o now (Running c))) (sym s.1) (λ d e. cc))
  | inr a ↦ inl (awake_in op now (Running c) a)
]

entered_each : (scenario : Scenario) (now c x rows : ℕ) (Q R : ℕ → ThreadNow → Type 0) → ThreadBears scenario now c x rows Q R → (s : SchedulerState) (op : Op) (ts : List ThreadNow) → s.shape.call_ns ≡ scenario.shape.call_ns
    → x < length ts → (slice_index_or ts x no_thread).left ≡ Some 0 → op_at scenario x (slice_index_or ts x no_thread).place ≡ op → IsDone c x Q R op ts s.threads
    → (st : State) → state_at s x ≡ st → IsEntered c x Q (enter_next scenario s x now op st).threads
entered_each scenario now c x rows Q R b s op ts call below left is d st at = by_own d.own st at
  where
    whole : Q x (thread_at s x) → IsOff (state_at s x) → IsEntered c x Q s.threads
    whole holds off = record { each = each_whole Q s.threads x d.others holds; own = inr off }

    on : IsStill c x R op (slice_index_or ts x no_thread) (thread_at s x) → IsEntered c x Q (enter_next scenario s x now op (Running c)).threads
    on still =
        let place = place_after op (thread_at s x).place in
        let t : ThreadNow = enter scenario s.shape x place now (Running c) (thread_at s x) in
        let inside : x < length s.threads = subst (λ n. x < n) (sym d.count) below in
        let there : slice_index_or (slice_set s.threads x t) x no_thread ≡ t = set_same s.threads x t inside in
        let q : Q x t = b.enters s.shape op (thread_at s x) call still.holds still.runs (still.left ∙ left) (ap (λ n. op_at scenario x n) still.place ∙ is) still.going in
        record {
          each = each_whole Q (slice_set s.threads x t) x (each_beside Q s.threads x t d.others) (subst (Q x) (sym there) q);
          own = subst (λ (u : ThreadNow). IsOnOrOff c u.state) (sym there) (entered_on (op_at scenario x place) now c);
        }

    by_own : IsStill c x R op (slice_index_or ts x no_thread) (thread_at s x) ⊎ (Q x (thread_at s x) × IsOff (state_at s x)) → (st : State) → state_at s x ≡ st → IsEntered c x Q (enter_next scenario s x now op st).threads
    by_own (inl still) st at = subst (λ z. IsEntered c x Q (enter_next scenario s x now op z).threads) (sym still.runs ∙ at) (on still)
    by_own (inr o) (Running k) at = absurd (o.1 k at)
    by_own (inr o) Ready at = whole o.0 o.1
    by_own (inr o) (Sleeping until) at = whole o.0 o.1
    by_own (inr o) (Sending ch) at = whole o.0 o.1
    by_own (inr o) (Receiving ch) at = whole o.0 o.1
    by_own (inr o) (Replying y) at = whole o.0 o.1
    by_own (inr o) Gone at = whole o.0 o.1

finished_each : (scenario : Scenario) (now c x rows : ℕ) (Q R : ℕ → ThreadNow → Type 0) → ThreadBears scenario now c x rows Q R → NamesChannels scenario → (s : SchedulerState) → IsReadyTo scenario c x rows Q R s
    → (left : Option ℕ) → (thread_at s x).left ≡ left → IsEntered c x Q (finish_op scenario s x now left).state.threads
finished_each scenario now c x rows Q R b names s m None e =
    record { each = each_whole Q s.threads x m.others (b.stays (thread_at s x) m.own m.runs (λ k. none (sym e ∙ k))); own = inl m.runs }
  where
    none : ◌≡◌ {A = Option ℕ} None (Some 0) → ⊥
    none k = cc
finished_each scenario now c x rows Q R b names s m (Some (suc n)) e =
    record { each = each_whole Q s.threads x m.others (b.stays (thread_at s x) m.own m.runs (λ k. more (sym e ∙ k))); own = inl m.runs }
  where
    more : ◌≡◌ {A = Option ℕ} (Some (suc n)) (Some 0) → ⊥
    more k = cc
finished_each scenario now c x rows Q R b names s m (Some zero) e =
    let op = op_at scenario x (thread_at s x).place in
    let did = (effect scenario s x now op).state in
    let d = effect_each scenario now c x rows Q R b s m op refl in
    let f = effect_kept scenario now c x (λ t. IsPlain scenario t × IsFramed s t) (framed_bears scenario now c x s (IsPlain scenario) (plain_bears scenario now c x)) names s op (thread_at s x).place refl
    (m.plain, record { cpus = refl; sizes = sizes_same s.shape }) m.runs in
    entered_each scenario now c x rows Q R b did op s.threads (f.0.1.sizes.call_ns ∙ m.call) (running_within s x c m.runs) e refl d (state_at did x) refl

given_each : (scenario : Scenario) (now c x rows : ℕ) (Q R : ℕ → ThreadNow → Type 0) → ThreadBears scenario now c x rows Q R → (s : SchedulerState) → IsEntered c x Q s.threads
    → (st : State) → state_at s x ≡ st → Each Q (give_back scenario s x st).threads
given_each scenario now c x rows Q R b s m st at = by_own m.own st at
  where
    by_slice : (over : Bool) → state_at s x ≡ Running c → Each Q (cond over (with_stamped s x (record (thread_at s x) { state = Ready })) (with_state s x Ready)).threads
    by_slice true run = each_set Q s.threads x _ m.each (λ below. b.back_stamped s.stamps (thread_at s x) (m.each x below) run)
    by_slice false run = each_set Q s.threads x _ m.each (λ below. b.back (thread_at s x) (m.each x below) run)

    by_own : IsOnOrOff c (state_at s x) → (st : State) → state_at s x ≡ st → Each Q (give_back scenario s x st).threads
    by_own (inl run) st at = subst (λ z. Each Q (give_back scenario s x z).threads) (sym run ∙ at) (by_slice (is_slice_over s.shape (thread_row scenario x).policy (thread_at s x).since) run)
    by_own (inr off) (Running k) at = absurd (off k at)
    by_own (inr off) Ready at = m.each
    by_own (inr off) (Sleeping until) at = m.each
    by_own (inr off) (Sending ch) at = m.each
    by_own (inr off) (Receiving ch) at = m.each
    by_own (inr off) (Replying y) at = m.each
    by_own (inr off) Gone at = m.each

-- ---- the work of the tick

pub tick_each : (scenario : Scenario) (now : ℕ) (Q : ℕ → ThreadNow → Type 0) → GoesOn scenario now Q → ((y : ℕ) (on : Bool) (t : ThreadNow) → Q y t → Q y (record t { own = record t.own { critical = on } }))
    → (s : SchedulerState) (h : List Entry) → s.shape.call_ns ≡ scenario.shape.call_ns → Each Q s.threads → Each Q (tick_work scenario s h now).threads
tick_each scenario now Q g marks s h call m =
    (tick_kept scenario now (λ t. Each Q t.threads × (t.shape.call_ns ≡ scenario.shape.call_ns))
    (λ t y u n e. (
      go_on_each scenario now Q g t y n.1 (within t.threads y (λ k. cc)) (subst MayGoOn (sym e) tt) n.0,
      ap (λ (z : Shape). z.call_ns) (go_on_shape scenario t y now) ∙ n.1,
    ))
    (λ k j t row n. (commanded k j t row n.0, command_by k j t row (λ u. u.shape.call_ns ≡ scenario.shape.call_ns) (λ u. Unit {0}) (λ mid rows shape replies changes q sizes. sizes.call_ns ∙ n.1) tt (λ x own. tt))) s h (m, call)).0
  where
    by_mark : (t : SchedulerState) (o : Option ℕ) (mark : Option Bool) → Each Q t.threads → Each Q (with_mark t o mark).threads
    by_mark t None mark n = n
    by_mark t (Some x) None n = n
    by_mark t (Some x) (Some on) n = each_set Q t.threads x _ n (λ below. marks x on (thread_at t x) (n x below))

    commanded : (k : List Entry) (j : ℕ) (t : SchedulerState) (row : ℕ × CommandRow) → Each Q t.threads → Each Q (do_command k j t row).threads
    commanded k j t (place, row) n = by_mark t (thread_named row.call) (perform row.call t.rows t.shape (view_of t k j row.call)).mark n

pub settled_each : (scenario : Scenario) (now c rows : ℕ) (pick : Pick) (Q R : ℕ → ThreadNow → Type 0) → ThreadBears scenario now c pick.thread rows Q R → NamesChannels scenario → (s : SchedulerState)
    → IsReadyTo scenario c pick.thread rows Q R s → Each Q (settled scenario s now (Some pick)).state.threads
settled_each scenario now c rows pick Q R b names s m =
    given_each scenario now c pick.thread rows Q R b (finish_op scenario s pick.thread now (thread_at s pick.thread).left).state
    (finished_each scenario now c pick.thread rows Q R b names s m (thread_at s pick.thread).left refl) _ refl
