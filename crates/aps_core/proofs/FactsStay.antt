-- Whose inherited values the parts of a step leave as they are.
use Rattle.std.proofs.Common.{◌≡◌, ◌≢◌, ℕ, zero, suc, List, [], ◌∷◌, ◌++◌, refl, sym, ◌∙◌, ap, subst, cond, Bool, true, false, Option, Some, None}
use Rattle.std.specs.List.{fold}
use Rattle.std.proofs.lemmas.List.{map-set}
use Rattle.aps_model.specs.declared.entry.Entry.{Entry}
use Rattle.aps_model.specs.declared.program.Op.{Op}
use Rattle.aps_model.specs.declared.program.Op.TheVariants.{Run, Forever, Sleep, Yield, Send, Receive, Reply, Join, Priority, CriticalOn, CriticalOff, Repeat, Exit}
use Rattle.aps_model.specs.declared.state.CpuNow.{CpuNow}
use Rattle.aps_model.specs.declared.state.Facts.{Facts}
use Rattle.aps_model.specs.declared.state.Pick.{Pick}
use Rattle.aps_model.specs.declared.state.State.{State}
use Rattle.aps_model.specs.declared.state.State.TheVariants.{Ready, Running, Sleeping, Sending, Receiving, Replying, Gone}
use Rattle.aps_model.specs.declared.state.ThreadNow.{ThreadNow}
use Rattle.aps_model.specs.Bill.{Tested}
use Rattle.aps_model.specs.Effect.{effect, joined}
use Rattle.aps_model.specs.Inherit.{client_of, facts_of, inherited, inheritance_of}
use Rattle.aps_model.specs.Messages.{Effect, first_message, received, received_message, replied, sent}
use Rattle.aps_model.specs.Operation.{go_on, is_slice_over, with_stamped}
use Rattle.aps_model.specs.Partition.{partition_named}
use Rattle.aps_model.specs.Scenario.{Scenario, op_at, thread_row}
use Rattle.aps_model.specs.SchedulerState.{Message, SchedulerState, channel_at, thread_at, with_channel, with_cpu, with_state, with_thread}
use Rattle.aps_model.specs.Step.{billed, enter_next, finish_op, give_back, settled, tested}
use Rattle.aps_model.specs.TickWork.{wake_all, waking}
use Rattle.laws_runs.specs.Servers.{IsNobodysClient}
use Rattle.laws_runs.proofs.Mid.{tested_by}
use Rattle.laws_runs.proofs.ThreadFacts.{go_on_by}
use Rattle.aps_core.specs.Touched.{is_alone}
use Rattle.aps_core.proofs.Seats.{facts_stay}
use Rattle.aps_core.proofs.SeatsStay.{follow_own, tops_stay}

clash : false ≡ true → ⊥
clash e = cc

-- whatever becomes of a thread that is nobody's client
put_facts : (s : SchedulerState) (x y : ℕ) (t : ThreadNow) → IsNobodysClient s.triples x → y ≢ x → facts_of (with_thread s x t) y ≡ facts_of s y
put_facts s x y t free ne =
    ap (λ (own : List Facts). inherited (record { own = own; triples = s.triples; tops = (inheritance_of s).tops }) y) (map-set (λ (u : ThreadNow). u.own) s.threads x t)
    ∙ follow_own (inheritance_of s).own s.triples (inheritance_of s).tops x t.own s.triples y 0 free ne

receivers_facts : (s : SchedulerState) (c y : ℕ) (receivers : List ℕ) → facts_of (with_channel s c (record (channel_at s c) { receivers = receivers })) y ≡ facts_of s y
receivers_facts s c y receivers =
    ap (λ (tops : List (Option ℕ)). inherited (record { own = (inheritance_of s).own; triples = s.triples; tops = tops }) y) (tops_stay s.channels c receivers)

-- ---- the wakes

woken_facts : (scenario : Scenario) (s : SchedulerState) (x now y : ℕ) → facts_of (go_on scenario s x now) y ≡ facts_of s y
woken_facts scenario s x now y =
    go_on_by scenario s x now (λ u. facts_of u y ≡ facts_of s y)
    (λ t ready own. facts_stay s x y (record t { stamp = s.stamps; since = 0 }) own)
    (λ t u sleeps own stamp later. facts_stay s x y t own)

all_woken_facts : (scenario : Scenario) (now y : ℕ) (sleepers : List (ℕ × ℕ)) (s : SchedulerState)
    → facts_of (fold (λ state (sleeper : ℕ × ℕ). go_on scenario state sleeper.1 now) s sleepers) y ≡ facts_of s y
all_woken_facts scenario now y [] s = refl
all_woken_facts scenario now y (z ∷ zs) s = all_woken_facts scenario now y zs (go_on scenario s z.1 now) ∙ woken_facts scenario s z.1 now y

pub wakes_facts : (scenario : Scenario) (now y : ℕ) (s t : SchedulerState) → t ≡ wake_all scenario now s → facts_of t y ≡ facts_of s y
wakes_facts scenario now y s t wakes = ap (λ (u : SchedulerState). facts_of u y) wakes ∙ all_woken_facts scenario now y (waking s now) s

-- ---- the operation

-- each operation that has to do with no other thread leaves what the others inherit
abbrev StaysIn : SchedulerState → ℕ → Effect → Type 0
StaysIn s y did = is_alone did.done ≡ true → facts_of did.state y ≡ facts_of s y

sent_facts : (scenario : Scenario) (s : SchedulerState) (x c now y : ℕ) (receivers : List ℕ) → StaysIn s y (sent scenario s x c now receivers)
sent_facts scenario s x c now y [] alone = absurd (clash alone)
sent_facts scenario s x c now y (r ∷ rest) alone = absurd (clash alone)

received_facts : (s : SchedulerState) (x c y : ℕ) (o : Option ℕ) → StaysIn s y (received s x c o)
received_facts s x c y (Some client) alone = refl
received_facts s x c y None alone = by_message (first_message (channel_at s c).messages) alone
  where
    by_message : (o : Option Message) → StaysIn s y (received_message s x c o)
    by_message None alone =
        let s1 = with_channel s c (record (channel_at s c) { receivers = (channel_at s c).receivers ++ x ∷ [] }) in
        facts_stay s1 x y (record (thread_at s1 x) { state = Receiving c }) refl ∙ receivers_facts s c y ((channel_at s c).receivers ++ x ∷ [])
    by_message (Some m) alone = absurd (clash alone)

replied_facts : (scenario : Scenario) (s : SchedulerState) (x now y : ℕ) (o : Option ℕ) → StaysIn s y (replied scenario s x now o)
replied_facts scenario s x now y None alone = refl
replied_facts scenario s x now y (Some client) alone = absurd (clash alone)

joined_facts : (s : SchedulerState) (x y : ℕ) (o : Option ℕ) → IsNobodysClient s.triples x → y ≢ x → StaysIn s y (joined s x o)
joined_facts s x y None free ne alone = refl
joined_facts s x y (Some p) free ne alone = put_facts s x y _ free ne

effect_facts : (scenario : Scenario) (s : SchedulerState) (x now y : ℕ) (op : Op) → IsNobodysClient s.triples x → y ≢ x → StaysIn s y (effect scenario s x now op)
effect_facts scenario s x now y (Run ns) free ne alone = refl
effect_facts scenario s x now y Forever free ne alone = refl
effect_facts scenario s x now y (Sleep ns) free ne alone = refl
effect_facts scenario s x now y Yield free ne alone = put_facts s x y (record (thread_at s x) { stamp = s.stamps; since = 0 }) free ne
effect_facts scenario s x now y (Send c) free ne alone = sent_facts scenario s x c now y (channel_at s c).receivers alone
effect_facts scenario s x now y (Receive c) free ne alone = received_facts s x c y (client_of s.triples x) alone
effect_facts scenario s x now y Reply free ne alone = replied_facts scenario s x now y (client_of s.triples x) alone
effect_facts scenario s x now y (Join name) free ne alone = joined_facts s x y (partition_named s.rows name) free ne alone
effect_facts scenario s x now y (Priority n) free ne alone =
    put_facts s x y (record (thread_at s x) { own = record (thread_at s x).own { priority = n }; stamp = s.stamps; since = 0 }) free ne
effect_facts scenario s x now y CriticalOn free ne alone = put_facts s x y _ free ne
effect_facts scenario s x now y CriticalOff free ne alone = put_facts s x y _ free ne
effect_facts scenario s x now y Repeat free ne alone = refl
effect_facts scenario s x now y Exit free ne alone = absurd (clash alone)

-- ---- what comes after it

entered_facts : (scenario : Scenario) (s : SchedulerState) (x now y : ℕ) (op : Op) (st : State) → facts_of (enter_next scenario s x now op st) y ≡ facts_of s y
entered_facts scenario s x now y op (Running c) = facts_stay s x y _ refl
entered_facts scenario s x now y op Ready = refl
entered_facts scenario s x now y op (Sleeping until) = refl
entered_facts scenario s x now y op (Sending d) = refl
entered_facts scenario s x now y op (Receiving d) = refl
entered_facts scenario s x now y op (Replying z) = refl
entered_facts scenario s x now y op Gone = refl

given_facts : (scenario : Scenario) (s : SchedulerState) (x y : ℕ) (st : State) → facts_of (give_back scenario s x st) y ≡ facts_of s y
given_facts scenario s x y (Running c) = by_slice (is_slice_over s.shape (thread_row scenario x).policy (thread_at s x).since)
  where
    by_slice : (over : Bool) → facts_of (cond over (with_stamped s x (record (thread_at s x) { state = Ready })) (with_state s x Ready)) y ≡ facts_of s y
    by_slice true = facts_stay s x y (record (thread_at s x) { state = Ready; stamp = s.stamps; since = 0 }) refl
    by_slice false = facts_stay s x y (record (thread_at s x) { state = Ready }) refl
given_facts scenario s x y Ready = refl
given_facts scenario s x y (Sleeping until) = refl
given_facts scenario s x y (Sending d) = refl
given_facts scenario s x y (Receiving d) = refl
given_facts scenario s x y (Replying z) = refl
given_facts scenario s x y Gone = refl

finished_facts : (scenario : Scenario) (s : SchedulerState) (x now y : ℕ) (left : Option ℕ) → IsNobodysClient s.triples x → y ≢ x → StaysIn s y (finish_op scenario s x now left)
finished_facts scenario s x now y None free ne alone = refl
finished_facts scenario s x now y (Some (suc n)) free ne alone = refl
finished_facts scenario s x now y (Some zero) free ne alone =
    let op = op_at scenario x (thread_at s x).place in
    let did = effect scenario s x now op in
    entered_facts scenario did.state x now y op (thread_at did.state x).state ∙ effect_facts scenario s x now y op free ne alone

settled_facts : (scenario : Scenario) (s : SchedulerState) (now y : ℕ) (p : Pick) → IsNobodysClient s.triples p.thread → y ≢ p.thread → StaysIn s y (settled scenario s now (Some p))
settled_facts scenario s now y p free ne alone =
    let did = finish_op scenario s p.thread now (thread_at s p.thread).left in
    given_facts scenario did.state p.thread y (thread_at did.state p.thread).state
    ∙ finished_facts scenario s p.thread now y (thread_at s p.thread).left free ne alone

-- ---- the bill and its test

billed_facts : (s : SchedulerState) (e : Entry) (y : ℕ) (running : Option Pick) → facts_of (billed s e running) y ≡ facts_of s y
billed_facts s e y None = refl
billed_facts s e y (Some p) = facts_stay s p.thread y _ refl

tested_facts : (s : SchedulerState) (h : List Entry) (e : Entry) (y : ℕ) → facts_of (tested s h e).state y ≡ facts_of s y
tested_facts s h e y = tested_by s.shape.bankruptcy s _ _ (λ u. facts_of u y ≡ facts_of s y) refl (λ p. refl)

-- ---- the step up to the pick, where no command comes first and the operation has to do with no other thread

pub step_facts : (scenario : Scenario) (s : SchedulerState) (h : List Entry) (c now y : ℕ) (cpu : CpuNow) (running : Option Pick) (e : Entry) (s1 s2 t0 t : SchedulerState) (reboot : Option ℕ) (did : Effect)
    → s1 ≡ with_cpu s c cpu → facts_of s2 y ≡ facts_of s1 y → t0 ≡ billed s2 e running → tested t0 h e ≡ record { state = t; reboot = reboot } → settled scenario t now running ≡ did
    → ((p : Pick) → running ≡ Some p → IsNobodysClient t.triples p.thread) → ((p : Pick) → running ≡ Some p → y ≢ p.thread) → is_alone did.done ≡ true
    → facts_of did.state y ≡ facts_of s y
step_facts scenario s h c now y cpu running e s1 s2 t0 t reboot did e1 e2 e3 e4 e5 free ne alone =
    by_running running refl
    ∙ sym (ap (λ (z : Tested). facts_of z.state y) e4)
    ∙ tested_facts t0 h e y
    ∙ ap (λ (z : SchedulerState). facts_of z y) e3
    ∙ billed_facts s2 e y running
    ∙ e2
    ∙ ap (λ (z : SchedulerState). facts_of z y) e1
  where
    by_running : (o : Option Pick) → running ≡ o → facts_of did.state y ≡ facts_of t y
    by_running None is = sym (ap (λ (z : Effect). facts_of z.state y) (ap (settled scenario t now) (sym is) ∙ e5))
    by_running (Some p) is =
        let same : settled scenario t now (Some p) ≡ did = ap (settled scenario t now) (sym is) ∙ e5 in
        subst (λ (z : Effect). StaysIn t y z) same (settled_facts scenario t now y p (free p is) (ne p is)) alone
