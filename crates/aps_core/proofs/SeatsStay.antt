-- Whose seats the parts of a step leave as they are.
use Rattle.std.proofs.Common.{◌≡◌, ◌≢◌, ℕ, zero, suc, max, List, [], ◌∷◌, ◌++◌, map, get_or, set, refl, sym, ◌∙◌, ap, subst, cond, Bool, true, false, ◌||◌, nat_eq, Option, Some, None, get_or-set_other, inl, inr}
use Rattle.std.specs.List.{fold}
use Rattle.std.specs.Option.{option_map}
use Rattle.std.proofs.lemmas.List.{map-set}
use Rattle.std.proofs.lemmas.Option.{none-some}
use Rattle.aps_model.specs.declared.entry.Done.{Done}
use Rattle.aps_model.specs.declared.entry.Entry.{Entry}
use Rattle.aps_model.specs.declared.program.Op.{Op}
use Rattle.aps_model.specs.declared.program.Op.TheVariants.{Run, Forever, Sleep, Yield, Send, Receive, Reply, Join, Priority, CriticalOn, CriticalOff, Repeat, Exit}
use Rattle.aps_model.specs.declared.merit.Contender.{Contender}
use Rattle.aps_model.specs.declared.state.CpuNow.{CpuNow}
use Rattle.aps_model.specs.declared.state.Facts.{Facts}
use Rattle.aps_model.specs.declared.state.Pick.{Pick}
use Rattle.aps_model.specs.declared.state.State.{State}
use Rattle.aps_model.specs.declared.state.State.TheVariants.{Ready, Running, Sleeping, Sending, Receiving, Replying, Gone}
use Rattle.aps_model.specs.declared.state.ThreadNow.{ThreadNow}
use Rattle.aps_model.specs.Bill.{Tested}
use Rattle.aps_model.specs.Effect.{effect, joined}
use Rattle.aps_model.specs.Inherit.{client_of, facts_of, follow, inherited, inheritance_of, raised, top_at, top_of, without_server}
use Rattle.aps_model.specs.Messages.{Effect, first_message, received, received_message, replied, sent}
use Rattle.aps_model.specs.Operation.{go_on, is_slice_over, with_stamped}
use Rattle.aps_model.specs.Partition.{partition_named}
use Rattle.aps_model.specs.Pick.{contender_of, is_ready}
use Rattle.aps_model.specs.Scenario.{Scenario, op_at, thread_row}
use Rattle.aps_model.specs.SchedulerState.{ChannelNow, Message, SchedulerState, Triple, channel_at, cpu_at, no_channel, no_facts, thread_at, with_channel, with_cpu, with_state, with_thread, with_triple}
use Rattle.aps_model.specs.Step.{billed, enter_next, finish_op, give_back, settled, tested}
use Rattle.aps_model.specs.TickWork.{wake_all, waking}
use Rattle.laws_runs.specs.Servers.{IsNobodysClient}
use Rattle.laws_runs.proofs.Chains.{own_at}
use Rattle.laws_runs.proofs.Mid.{tested_by}
use Rattle.laws_runs.proofs.Servers.{changes_only}
use Rattle.laws_runs.proofs.ThreadFacts.{go_on_by, set_other}
use Rattle.laws_runs.proofs.WaitFacts.{test_eq, test_ne}
use Rattle.aps_core.specs.Seats.{seat_at}
use Rattle.aps_core.specs.Sleepers.{numbers_of}
use Rattle.aps_core.specs.Touched.{IsTouched, is_at_channel, is_exit, peer_of, woke}
use Rattle.aps_core.proofs.Seats.{seat_stays}
use Rattle.aps_core.proofs.Touched.{some_number}

-- the seat of a thread with these values
abbrev seat_from : ℕ → Facts → ThreadNow → Option Contender
seat_from y facts thread = cond (is_ready thread.state) (Some (record { thread = y; facts = facts; stamp = thread.stamp })) None

seat_by : (s t : SchedulerState) (y : ℕ) → facts_of t y ≡ facts_of s y → thread_at t y ≡ thread_at s y → seat_at t y ≡ seat_at s y
seat_by s t y facts thread =
    ap (λ (f : Facts). seat_from y f (thread_at t y)) facts ∙ ap (λ (u : ThreadNow). seat_from y (facts_of s y) u) thread

-- ---- own values of another thread

pub follow_own : (own : List Facts) (all : List Triple) (tops : List (Option ℕ)) (x : ℕ) (v : Facts) (ts : List Triple) (y priority : ℕ) → IsNobodysClient ts x → y ≢ x
    → follow (record { own = set own x v; triples = all; tops = tops }) ts y priority ≡ follow (record { own = own; triples = all; tops = tops }) ts y priority
follow_own own all tops x v [] y priority free ne = ap (raised priority) (get_or-set_other own x y v no_facts ne)
follow_own own all tops x v (t ∷ older) y priority free ne =
    follow_own own all tops x v older (cond (nat_eq t.server y) t.client y) (cond (nat_eq t.server y) (max priority (top_at tops t.channel)) priority) free.1 (beside (nat_eq t.server y))
  where
    beside : (b : Bool) → cond b t.client y ≢ x
    beside true e = free.0 (sym e)
    beside false e = ne e

-- whatever becomes of a thread that is nobody's client
put_seat : (s : SchedulerState) (x y : ℕ) (t : ThreadNow) → IsNobodysClient s.triples x → y ≢ x → seat_at (with_thread s x t) y ≡ seat_at s y
put_seat s x y t free ne =
    seat_by s (with_thread s x t) y
    (ap (λ (own : List Facts). inherited (record { own = own; triples = s.triples; tops = (inheritance_of s).tops }) y) (map-set (λ (u : ThreadNow). u.own) s.threads x t)
    ∙ follow_own (inheritance_of s).own s.triples (inheritance_of s).tops x t.own s.triples y 0 free ne)
    (set_other s.threads x y t ne)

-- ---- a thread that serves nobody

follow_alone : (own : List Facts) (all : List Triple) (tops : List (Option ℕ)) (ts : List Triple) (y priority : ℕ) → client_of ts y ≡ None
    → follow (record { own = own; triples = all; tops = tops }) ts y priority ≡ raised priority (get_or own y no_facts)
follow_alone own all tops [] y priority none = refl
follow_alone own all tops (t ∷ older) y priority none = by_test (nat_eq t.server y) none (follow_alone own all tops older y priority)
  where
    by_test : (b : Bool) → cond b (Some t.client) (client_of older y) ≡ None
        → (client_of older y ≡ None → follow (record { own = own; triples = all; tops = tops }) older y priority ≡ raised priority (get_or own y no_facts))
        → follow (record { own = own; triples = all; tops = tops }) older (cond b t.client y) (cond b (max priority (top_at tops t.channel)) priority) ≡ raised priority (get_or own y no_facts)
    by_test true none rest = absurd (some_none t.client none)
      where
        some_none : (k : ℕ) → Some k ≡ None → ⊥
        some_none k e = cc
    by_test false none rest = rest none

facts_alone : (s : SchedulerState) (y : ℕ) → client_of s.triples y ≡ None → facts_of s y ≡ raised 0 (thread_at s y).own
facts_alone s y none =
    follow_alone (inheritance_of s).own s.triples (inheritance_of s).tops s.triples y 0 none ∙ ap (raised 0) (own_at s.threads y)

alone_seat : (s t : SchedulerState) (y : ℕ) → client_of s.triples y ≡ None → client_of t.triples y ≡ None → thread_at t y ≡ thread_at s y → seat_at t y ≡ seat_at s y
alone_seat s t y before after same =
    seat_by s t y (facts_alone t y after ∙ ap (λ (u : ThreadNow). raised 0 u.own) same ∙ sym (facts_alone s y before)) same

-- ---- receivers

pub tops_stay : (channels : List ChannelNow) (c : ℕ) (receivers : List ℕ)
    → map (λ (d : ChannelNow). top_of d.messages) (set channels c (record (get_or channels c no_channel) { receivers = receivers })) ≡ map (λ (d : ChannelNow). top_of d.messages) channels
tops_stay channels c receivers =
    map-set (λ (d : ChannelNow). top_of d.messages) channels c (record (get_or channels c no_channel) { receivers = receivers })
    ∙ set_as_is channels c
  where
    set_as_is : (channels : List ChannelNow) (c : ℕ)
        → set (map (λ (d : ChannelNow). top_of d.messages) channels) c (top_of (get_or channels c no_channel).messages) ≡ map (λ (d : ChannelNow). top_of d.messages) channels
    set_as_is [] c = refl
    set_as_is (d ∷ channels) zero = refl
    set_as_is (d ∷ channels) (suc c) = ap (λ rest. top_of d.messages ∷ rest) (set_as_is channels c)

receivers_seat : (s : SchedulerState) (c y : ℕ) (receivers : List ℕ) → seat_at (with_channel s c (record (channel_at s c) { receivers = receivers })) y ≡ seat_at s y
receivers_seat s c y receivers =
    seat_by s (with_channel s c (record (channel_at s c) { receivers = receivers })) y
    (ap (λ (tops : List (Option ℕ)). inherited (record { own = (inheritance_of s).own; triples = s.triples; tops = tops }) y) (tops_stay s.channels c receivers)) refl

-- ---- the operation

woken_seat : (scenario : Scenario) (s : SchedulerState) (x now y : ℕ) → y ≢ x → seat_at (go_on scenario s x now) y ≡ seat_at s y
woken_seat scenario s x now y ne =
    go_on_by scenario s x now (λ u. seat_at u y ≡ seat_at s y)
    (λ t ready own. seat_stays s x y (record t { stamp = s.stamps; since = 0 }) ne own)
    (λ t u sleeps own stamp later. seat_stays s x y t ne own)

-- what doesn't hold of a thread that isn't touched
record IsApart (x : ℕ) (done : Done) (triples : List Triple) (y : ℕ) : Type 0 where
  own : y ≢ x
  peer : peer_of done ≡ Some y → ⊥
  server : is_at_channel done ≡ true → client_of triples y ≡ None

apart_of : (woken : List ℕ) (x : ℕ) (done : Done) (triples : List Triple) (y : ℕ) → (IsTouched woken (Some x) (peer_of done) (is_at_channel done) triples y → ⊥) → IsApart x done triples y
apart_of woken x done triples y apart = record {
  own = λ e. apart (inr (inl (ap (λ z. Some z) (sym e))));
  peer = λ e. apart (inr (inr (inl e)));
  server = λ counts. by_client (client_of triples y) refl counts;
}
  where
    by_client : (o : Option ℕ) → client_of triples y ≡ o → is_at_channel done ≡ true → client_of triples y ≡ None
    by_client None is counts = is
    by_client (Some k) is counts = absurd (apart (inr (inr (inr (counts, λ none. some_none k (sym is ∙ none))))))
      where
        some_none : (k : ℕ) → Some k ≡ None → ⊥
        some_none k e = cc

-- each operation but an exit leaves the seats of those whom it doesn't touch
abbrev StaysIn : SchedulerState → ℕ → ℕ → Effect → Type 0
StaysIn s x y did = is_exit did.done ≡ false → IsApart x did.done did.state.triples y → seat_at did.state y ≡ seat_at s y

sent_seat : (scenario : Scenario) (s : SchedulerState) (x c now y : ℕ) (receivers : List ℕ) → StaysIn s x y (sent scenario s x c now receivers)
sent_seat scenario s x c now y [] calm apart =
    alone_seat s (sent scenario s x c now []).state y (apart.server refl) (apart.server refl) (set_other s.threads x y _ apart.own)
sent_seat scenario s x c now y (r ∷ rest) calm apart =
    let ne : y ≢ r = λ e. apart.peer (ap (λ z. Some z) (sym e)) in
    let s1 = with_channel s c (record (channel_at s c) { receivers = rest }) in
    let s2 = with_triple s1 r x c in
    let i = inheritance_of s1 in
    woken_seat scenario (with_state s2 x (Replying r)) r now y ne
    ∙ seat_stays s2 x y (record (thread_at s2 x) { state = Replying r }) apart.own refl
    ∙ seat_by s1 s2 y (ap (λ b. follow i s1.triples (cond b x y) (cond b (max 0 (top_at i.tops c)) 0)) (test_ne r y (λ e. ne (sym e)))) refl
    ∙ receivers_seat s c y rest

received_seat : (s : SchedulerState) (x c y : ℕ) (o : Option ℕ) → StaysIn s x y (received s x c o)
received_seat s x c y (Some client) calm apart = refl
received_seat s x c y None calm apart = by_message (first_message (channel_at s c).messages) calm apart
  where
    by_message : (o : Option Message) → StaysIn s x y (received_message s x c o)
    by_message None calm apart =
        let s1 = with_channel s c (record (channel_at s c) { receivers = (channel_at s c).receivers ++ x ∷ [] }) in
        seat_stays s1 x y (record (thread_at s1 x) { state = Receiving c }) apart.own refl ∙ receivers_seat s c y ((channel_at s c).receivers ++ x ∷ [])
    by_message (Some m) calm apart =
        let after = apart.server refl in
        let before = ap (λ b. cond b (Some m.sender) (client_of s.triples y)) (sym (test_ne x y (λ e. apart.own (sym e)))) ∙ after in
        alone_seat s (received_message s x c (Some m)).state y before after (set_other s.threads m.sender y _ (λ e. apart.peer (ap (λ z. Some z) (sym e))))

replied_seat : (scenario : Scenario) (s : SchedulerState) (x now y : ℕ) (o : Option ℕ) → IsNobodysClient s.triples x → StaysIn s x y (replied scenario s x now o)
replied_seat scenario s x now y None free calm apart = refl
replied_seat scenario s x now y (Some client) free calm apart =
    let s1 : SchedulerState = record s { triples = without_server s.triples x } in
    woken_seat scenario s1 client now y (λ e. apart.peer (ap (λ z. Some z) (sym e)))
    ∙ seat_by s s1 y ((changes_only s x free).leaves y apart.own) refl

joined_seat : (s : SchedulerState) (x y : ℕ) (o : Option ℕ) → IsNobodysClient s.triples x → StaysIn s x y (joined s x o)
joined_seat s x y None free calm apart = refl
joined_seat s x y (Some p) free calm apart = put_seat s x y _ free apart.own

effect_seat : (scenario : Scenario) (s : SchedulerState) (x now y : ℕ) (op : Op) → IsNobodysClient s.triples x → StaysIn s x y (effect scenario s x now op)
effect_seat scenario s x now y (Run ns) free calm apart = refl
effect_seat scenario s x now y Forever free calm apart = refl
effect_seat scenario s x now y (Sleep ns) free calm apart = refl
effect_seat scenario s x now y Yield free calm apart = put_seat s x y (record (thread_at s x) { stamp = s.stamps; since = 0 }) free apart.own
effect_seat scenario s x now y (Send c) free calm apart = sent_seat scenario s x c now y (channel_at s c).receivers calm apart
effect_seat scenario s x now y (Receive c) free calm apart = received_seat s x c y (client_of s.triples x) calm apart
effect_seat scenario s x now y Reply free calm apart = replied_seat scenario s x now y (client_of s.triples x) free calm apart
effect_seat scenario s x now y (Join name) free calm apart = joined_seat s x y (partition_named s.rows name) free calm apart
effect_seat scenario s x now y (Priority n) free calm apart =
    put_seat s x y (record (thread_at s x) { own = record (thread_at s x).own { priority = n }; stamp = s.stamps; since = 0 }) free apart.own
effect_seat scenario s x now y CriticalOn free calm apart = put_seat s x y _ free apart.own
effect_seat scenario s x now y CriticalOff free calm apart = put_seat s x y _ free apart.own
effect_seat scenario s x now y Repeat free calm apart = refl
effect_seat scenario s x now y Exit free calm apart = absurd (clash calm)
  where
    clash : true ≡ false → ⊥
    clash e = cc

-- ---- what comes after it

entered_seat : (scenario : Scenario) (s : SchedulerState) (x now y : ℕ) (op : Op) (st : State) → y ≢ x → seat_at (enter_next scenario s x now op st) y ≡ seat_at s y
entered_seat scenario s x now y op (Running c) ne = seat_stays s x y _ ne refl
entered_seat scenario s x now y op Ready ne = refl
entered_seat scenario s x now y op (Sleeping until) ne = refl
entered_seat scenario s x now y op (Sending d) ne = refl
entered_seat scenario s x now y op (Receiving d) ne = refl
entered_seat scenario s x now y op (Replying z) ne = refl
entered_seat scenario s x now y op Gone ne = refl

entered_triples : (scenario : Scenario) (s : SchedulerState) (x now : ℕ) (op : Op) (st : State) → (enter_next scenario s x now op st).triples ≡ s.triples
entered_triples scenario s x now op (Running c) = refl
entered_triples scenario s x now op Ready = refl
entered_triples scenario s x now op (Sleeping until) = refl
entered_triples scenario s x now op (Sending d) = refl
entered_triples scenario s x now op (Receiving d) = refl
entered_triples scenario s x now op (Replying z) = refl
entered_triples scenario s x now op Gone = refl

given_seat : (scenario : Scenario) (s : SchedulerState) (x y : ℕ) (st : State) → y ≢ x → seat_at (give_back scenario s x st) y ≡ seat_at s y
given_seat scenario s x y (Running c) ne = by_slice (is_slice_over s.shape (thread_row scenario x).policy (thread_at s x).since)
  where
    by_slice : (over : Bool) → seat_at (cond over (with_stamped s x (record (thread_at s x) { state = Ready })) (with_state s x Ready)) y ≡ seat_at s y
    by_slice true = seat_stays s x y (record (thread_at s x) { state = Ready; stamp = s.stamps; since = 0 }) ne refl
    by_slice false = seat_stays s x y (record (thread_at s x) { state = Ready }) ne refl
given_seat scenario s x y Ready ne = refl
given_seat scenario s x y (Sleeping until) ne = refl
given_seat scenario s x y (Sending d) ne = refl
given_seat scenario s x y (Receiving d) ne = refl
given_seat scenario s x y (Replying z) ne = refl
given_seat scenario s x y Gone ne = refl

given_triples : (scenario : Scenario) (s : SchedulerState) (x : ℕ) (st : State) → (give_back scenario s x st).triples ≡ s.triples
given_triples scenario s x (Running c) = by_slice (is_slice_over s.shape (thread_row scenario x).policy (thread_at s x).since)
  where
    by_slice : (over : Bool) → (cond over (with_stamped s x (record (thread_at s x) { state = Ready })) (with_state s x Ready)).triples ≡ s.triples
    by_slice true = refl
    by_slice false = refl
given_triples scenario s x Ready = refl
given_triples scenario s x (Sleeping until) = refl
given_triples scenario s x (Sending d) = refl
given_triples scenario s x (Receiving d) = refl
given_triples scenario s x (Replying z) = refl
given_triples scenario s x Gone = refl

finished_seat : (scenario : Scenario) (s : SchedulerState) (x now y : ℕ) (left : Option ℕ) → IsNobodysClient s.triples x → StaysIn s x y (finish_op scenario s x now left)
finished_seat scenario s x now y None free calm apart = refl
finished_seat scenario s x now y (Some (suc n)) free calm apart = refl
finished_seat scenario s x now y (Some zero) free calm apart =
    let op = op_at scenario x (thread_at s x).place in
    let did = effect scenario s x now op in
    entered_seat scenario did.state x now y op (thread_at did.state x).state apart.own
    ∙ effect_seat scenario s x now y op free calm
    (subst (λ ts. IsApart x did.done ts y) (entered_triples scenario did.state x now op (thread_at did.state x).state) apart)

-- the operation of the thread that ran, with what comes after it
settled_seat : (scenario : Scenario) (s : SchedulerState) (x now y : ℕ) (p : Pick) → p.thread ≡ x → IsNobodysClient s.triples x → StaysIn s x y (settled scenario s now (Some p))
settled_seat scenario s x now y p same free calm apart =
    let did = finish_op scenario s p.thread now (thread_at s p.thread).left in
    let apart' : IsApart p.thread did.done did.state.triples y = subst (λ z. IsApart z did.done did.state.triples y) (sym same)
    (subst (λ ts. IsApart x did.done ts y) (given_triples scenario did.state p.thread (thread_at did.state p.thread).state) apart) in
    given_seat scenario did.state p.thread y (thread_at did.state p.thread).state apart'.own
    ∙ finished_seat scenario s p.thread now y (thread_at s p.thread).left (subst (IsNobodysClient s.triples) (sym same) free) calm apart'

-- ---- the bill and its test

billed_seat : (s : SchedulerState) (e : Entry) (y : ℕ) (running : Option Pick) → (option_map (λ (p : Pick). p.thread) running ≡ Some y → ⊥) → seat_at (billed s e running) y ≡ seat_at s y
billed_seat s e y None apart = refl
billed_seat s e y (Some p) apart = seat_stays s p.thread y _ (λ same. apart (ap (λ z. Some z) (sym same))) refl

tested_seat : (s : SchedulerState) (h : List Entry) (e : Entry) (y : ℕ) → seat_at (tested s h e).state y ≡ seat_at s y
tested_seat s h e y = tested_by s.shape.bankruptcy s _ _ (λ u. seat_at u y ≡ seat_at s y) refl (λ p. refl)

-- ---- the wakes

-- those who don't wake sit as before
pub woken_seats : (scenario : Scenario) (now y : ℕ) (sleepers : List (ℕ × ℕ)) (s : SchedulerState) → woke (numbers_of sleepers) y ≡ false
    → seat_at (fold (λ state (sleeper : ℕ × ℕ). go_on scenario state sleeper.1 now) s sleepers) y ≡ seat_at s y
woken_seats scenario now y [] s not = refl
woken_seats scenario now y (z ∷ zs) s not =
    woken_seats scenario now y zs (go_on scenario s z.1 now) (parts (nat_eq z.1 y) (woke (numbers_of zs) y) not).1
    ∙ woken_seat scenario s z.1 now y (λ e. clash (sym (test_eq z.1 y (sym e)) ∙ (parts (nat_eq z.1 y) (woke (numbers_of zs) y) not).0))
  where
    clash : true ≡ false → ⊥
    clash e = cc

    parts : (a b : Bool) → (a || b) ≡ false → (a ≡ false) × (b ≡ false)
    parts true b e = absurd cc
    parts false b e = (refl, e)

pub wakes_seats : (scenario : Scenario) (now y : ℕ) (woken : List ℕ) (s t : SchedulerState) → t ≡ wake_all scenario now s → woken ≡ numbers_of (waking s now) → woke woken y ≡ false → seat_at t y ≡ seat_at s y
wakes_seats scenario now y woken s t wakes are not =
    ap (λ (u : SchedulerState). seat_at u y) wakes ∙ woken_seats scenario now y (waking s now) s (ap (λ l. woke l y) (sym are) ∙ not)

-- ---- the step up to the pick, where no command comes first

pub step_seat : (scenario : Scenario) (s : SchedulerState) (h : List Entry) (c now y : ℕ) (cpu : CpuNow) (running : Option Pick) (e : Entry) (s1 s2 t0 t : SchedulerState) (reboot : Option ℕ) (did : Effect) (woken : List ℕ)
    → s1 ≡ with_cpu s c cpu → (woke woken y ≡ false → seat_at s2 y ≡ seat_at s1 y) → t0 ≡ billed s2 e running → tested t0 h e ≡ record { state = t; reboot = reboot } → settled scenario t now running ≡ did
    → ((p : Pick) → running ≡ Some p → IsNobodysClient t.triples p.thread) → is_exit did.done ≡ false
    → (IsTouched woken (option_map (λ (p : Pick). p.thread) running) (peer_of did.done) (is_at_channel did.done) did.state.triples y → ⊥)
    → seat_at did.state y ≡ seat_at s y
step_seat scenario s h c now y cpu running e s1 s2 t0 t reboot did woken e1 e2 e3 e4 e5 free calm apart =
    by_running running refl
    ∙ sym (ap (λ (z : Tested). seat_at z.state y) e4)
    ∙ tested_seat t0 h e y
    ∙ ap (λ (z : SchedulerState). seat_at z y) e3
    ∙ billed_seat s2 e y running (λ own. apart (inr (inl own)))
    ∙ e2 (asleep (woke woken y) refl)
    ∙ ap (λ (z : SchedulerState). seat_at z y) e1
  where
    asleep : (b : Bool) → woke woken y ≡ b → woke woken y ≡ false
    asleep true is = absurd (apart (inl is))
    asleep false is = is

    by_running : (o : Option Pick) → running ≡ o → seat_at did.state y ≡ seat_at t y
    by_running None is = sym (ap (λ (z : Effect). seat_at z.state y) (ap (settled scenario t now) (sym is) ∙ e5))
    by_running (Some p) is =
        let same : settled scenario t now (Some p) ≡ did = ap (settled scenario t now) (sym is) ∙ e5 in
        let touched : IsTouched woken (Some p.thread) (peer_of did.done) (is_at_channel did.done) did.state.triples y → ⊥ =
        subst (λ (o : Option Pick). IsTouched woken (option_map (λ (q : Pick). q.thread) o) (peer_of did.done) (is_at_channel did.done) did.state.triples y → ⊥) is apart in
        subst (λ (z : Effect). StaysIn t p.thread y z) same (settled_seat scenario t p.thread now y p refl (free p is)) calm (apart_of woken p.thread did.done did.state.triples y touched)

-- ---- who runs

-- whoever a processor runs isn't in the queues
pub running_out : (s : SchedulerState) (c y : ℕ) (o : Option Pick) → ((d : ℕ) (p : Pick) → (cpu_at s d).running ≡ Some p → (thread_at s p.thread).state ≡ Running d)
    → (cpu_at s c).running ≡ o → option_map (λ (p : Pick). p.thread) o ≡ Some y → seat_at s y ≡ None
running_out s c y None runs is own = absurd (none-some y own)
running_out s c y (Some p) runs is own =
    ap (λ (st : State). cond (is_ready st) (Some (contender_of s y)) None) (ap (λ x. (thread_at s x).state) (sym (some_number p.thread y own)) ∙ runs c p is)
