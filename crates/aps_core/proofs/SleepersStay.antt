-- Whose sleep the parts of a step leave as it is.
use Rattle.std.proofs.Common.{◌≡◌, ◌≢◌, ℕ, zero, suc, ◌/◌, List, [], ◌∷◌, ◌++◌, refl, sym, ◌∙◌, ap, subst, cond, Bool, true, false, Option, Some, None}
use Rattle.std.specs.Option.{option_map}
use Rattle.aps_model.specs.declared.command.CommandRow.{CommandRow}
use Rattle.aps_model.specs.declared.entry.Done.{Done}
use Rattle.aps_model.specs.declared.entry.Entry.{Entry}
use Rattle.aps_model.specs.declared.program.Op.{Op}
use Rattle.aps_model.specs.declared.program.Op.TheVariants.{Run, Forever, Sleep, Yield, Send, Receive, Reply, Join, Priority, CriticalOn, CriticalOff, Repeat, Exit}
use Rattle.aps_model.specs.declared.merit.Contender.{Contender}
use Rattle.aps_model.specs.declared.merit.PartFacts.{PartFacts}
use Rattle.aps_model.specs.declared.state.Pick.{Pick}
use Rattle.aps_model.specs.declared.state.State.{State}
use Rattle.aps_model.specs.declared.state.State.TheVariants.{Ready, Running, Sleeping, Sending, Receiving, Replying, Gone}
use Rattle.aps_model.specs.declared.state.ThreadNow.{ThreadNow}
use Rattle.aps_model.specs.Budget.{all_parts}
use Rattle.aps_model.specs.Bill.{Tested}
use Rattle.aps_model.specs.Effect.{effect, joined}
use Rattle.aps_model.specs.Flag.{flag_for, with_flag}
use Rattle.aps_model.specs.Inherit.{client_of, without_server}
use Rattle.aps_model.specs.Messages.{Effect, first_message, received, received_message, replied, sent}
use Rattle.aps_model.specs.Operation.{is_slice_over, with_stamped}
use Rattle.aps_model.specs.Partition.{partition_named}
use Rattle.aps_model.specs.Pick.{contenders, greatest}
use Rattle.aps_model.specs.Scenario.{Scenario, op_at, thread_row}
use Rattle.aps_model.specs.SchedulerState.{Message, SchedulerState, channel_at, thread_at, with_channel, with_state, with_triple}
use Rattle.aps_model.specs.Step.{billed, chosen, enter_next, finish_op, give_back, pick, settled, tested}
use Rattle.aps_model.specs.TickWork.{do_command}
use Rattle.aps_ctl.specs.Pending.{all_at}
use Rattle.laws_runs.proofs.Commands.{command_by}
use Rattle.laws_runs.proofs.Mid.{tested_by}
use Rattle.laws_runs.proofs.Picked.{greatest_ready}
use Rattle.laws_runs.proofs.ThreadFacts.{set_other}
use Rattle.laws_runs.proofs.Walk.{command_each, go_on_other}
use Rattle.aps_timer.specs.Waking.{sleeps_until}
use Rattle.aps_core.specs.Calls.{all_done}
use Rattle.aps_core.specs.Sleepers.{IsTimed, sleepers_of}
use Rattle.aps_core.specs.Touched.{is_exit, peer_of}
use Rattle.aps_core.proofs.Asleep.{sleep_stays, timed_each}

-- ---- the commands

-- the same sleep
abbrev AsleepAs : SchedulerState → SchedulerState → Type 0
AsleepAs s t = sleepers_of t ≡ sleepers_of s

command_sleepers : (h : List Entry) (tick : ℕ) (s t : SchedulerState) (c : ℕ × CommandRow) → AsleepAs s t → AsleepAs s (do_command h tick t c)
command_sleepers h tick s t c same =
    command_by h tick t c (AsleepAs s) (AsleepAs s) (λ mid rows shape replies changes kept sizes. kept) same (λ x own. sleep_stays t x (record (thread_at t x) { own = own }) refl ∙ same)

pub commands_sleepers : (h : List Entry) (tick : ℕ) (s : SchedulerState) (pending : List (ℕ × CommandRow)) → sleepers_of (all_done h tick s pending) ≡ sleepers_of s
commands_sleepers h tick s pending = command_each h tick (AsleepAs s) (command_sleepers h tick s) (all_at tick pending) s refl

-- ---- the operation

-- the operation of thread x has nothing to do with another
record IsBeside (x : ℕ) (done : Done) (y : ℕ) : Type 0 where
  own : y ≢ x
  peer : peer_of done ≢ Some y

-- each operation but an exit leaves those with whom it has nothing to do
abbrev Leaves : SchedulerState → ℕ → ℕ → Effect → Type 0
Leaves s x y did = is_exit did.done ≡ false → IsBeside x did.done y → thread_at did.state y ≡ thread_at s y

sent_thread : (scenario : Scenario) (s : SchedulerState) (x c now y : ℕ) (receivers : List ℕ) → Leaves s x y (sent scenario s x c now receivers)
sent_thread scenario s x c now y [] calm beside = set_other s.threads x y _ beside.own
sent_thread scenario s x c now y (r ∷ rest) calm beside =
    let s1 = with_triple (with_channel s c (record (channel_at s c) { receivers = rest })) r x c in
    go_on_other scenario (with_state s1 x (Replying r)) r now y (λ e. beside.peer (ap (λ z. Some z) (sym e))) ∙ set_other s.threads x y _ beside.own

received_thread : (s : SchedulerState) (x c y : ℕ) (o : Option ℕ) → Leaves s x y (received s x c o)
received_thread s x c y (Some client) calm beside = refl
received_thread s x c y None calm beside = by_message (first_message (channel_at s c).messages) calm beside
  where
    by_message : (o : Option Message) → Leaves s x y (received_message s x c o)
    by_message None calm beside = set_other s.threads x y _ beside.own
    by_message (Some m) calm beside = set_other s.threads m.sender y _ (λ e. beside.peer (ap (λ z. Some z) (sym e)))

replied_thread : (scenario : Scenario) (s : SchedulerState) (x now y : ℕ) (o : Option ℕ) → Leaves s x y (replied scenario s x now o)
replied_thread scenario s x now y None calm beside = refl
replied_thread scenario s x now y (Some client) calm beside =
    go_on_other scenario (record s { triples = without_server s.triples x }) client now y (λ e. beside.peer (ap (λ z. Some z) (sym e)))

joined_thread : (s : SchedulerState) (x y : ℕ) (o : Option ℕ) → Leaves s x y (joined s x o)
joined_thread s x y None calm beside = refl
joined_thread s x y (Some p) calm beside = set_other s.threads x y _ beside.own

effect_thread : (scenario : Scenario) (s : SchedulerState) (x now y : ℕ) (op : Op) → Leaves s x y (effect scenario s x now op)
effect_thread scenario s x now y (Run ns) calm beside = refl
effect_thread scenario s x now y Forever calm beside = refl
effect_thread scenario s x now y (Sleep ns) calm beside = refl
effect_thread scenario s x now y Yield calm beside = set_other s.threads x y _ beside.own
effect_thread scenario s x now y (Send c) calm beside = sent_thread scenario s x c now y (channel_at s c).receivers calm beside
effect_thread scenario s x now y (Receive c) calm beside = received_thread s x c y (client_of s.triples x) calm beside
effect_thread scenario s x now y Reply calm beside = replied_thread scenario s x now y (client_of s.triples x) calm beside
effect_thread scenario s x now y (Join name) calm beside = joined_thread s x y (partition_named s.rows name) calm beside
effect_thread scenario s x now y (Priority n) calm beside = set_other s.threads x y _ beside.own
effect_thread scenario s x now y CriticalOn calm beside = set_other s.threads x y _ beside.own
effect_thread scenario s x now y CriticalOff calm beside = set_other s.threads x y _ beside.own
effect_thread scenario s x now y Repeat calm beside = refl
effect_thread scenario s x now y Exit calm beside = absurd (clash calm)
  where
    clash : true ≡ false → ⊥
    clash e = cc

-- ---- what comes after it

entered_thread : (scenario : Scenario) (s : SchedulerState) (x now y : ℕ) (op : Op) (st : State) → y ≢ x → thread_at (enter_next scenario s x now op st) y ≡ thread_at s y
entered_thread scenario s x now y op (Running c) ne = set_other s.threads x y _ ne
entered_thread scenario s x now y op Ready ne = refl
entered_thread scenario s x now y op (Sleeping until) ne = refl
entered_thread scenario s x now y op (Sending d) ne = refl
entered_thread scenario s x now y op (Receiving d) ne = refl
entered_thread scenario s x now y op (Replying z) ne = refl
entered_thread scenario s x now y op Gone ne = refl

given_thread : (scenario : Scenario) (s : SchedulerState) (x y : ℕ) (st : State) → y ≢ x → thread_at (give_back scenario s x st) y ≡ thread_at s y
given_thread scenario s x y (Running c) ne = by_slice (is_slice_over s.shape (thread_row scenario x).policy (thread_at s x).since)
  where
    by_slice : (over : Bool) → thread_at (cond over (with_stamped s x (record (thread_at s x) { state = Ready })) (with_state s x Ready)) y ≡ thread_at s y
    by_slice true = set_other s.threads x y _ ne
    by_slice false = set_other s.threads x y _ ne
given_thread scenario s x y Ready ne = refl
given_thread scenario s x y (Sleeping until) ne = refl
given_thread scenario s x y (Sending d) ne = refl
given_thread scenario s x y (Receiving d) ne = refl
given_thread scenario s x y (Replying z) ne = refl
given_thread scenario s x y Gone ne = refl

finished_thread : (scenario : Scenario) (s : SchedulerState) (x now y : ℕ) (left : Option ℕ) → Leaves s x y (finish_op scenario s x now left)
finished_thread scenario s x now y None calm beside = refl
finished_thread scenario s x now y (Some (suc n)) calm beside = refl
finished_thread scenario s x now y (Some zero) calm beside =
    let op = op_at scenario x (thread_at s x).place in
    let did = effect scenario s x now op in
    entered_thread scenario did.state x now y op (thread_at did.state x).state beside.own ∙ effect_thread scenario s x now y op calm beside

settled_thread : (scenario : Scenario) (s : SchedulerState) (now y : ℕ) (running : Option Pick) → is_exit (settled scenario s now running).done ≡ false
    → option_map (λ (p : Pick). p.thread) running ≢ Some y → peer_of (settled scenario s now running).done ≢ Some y → thread_at (settled scenario s now running).state y ≡ thread_at s y
settled_thread scenario s now y None calm own peer = refl
settled_thread scenario s now y (Some p) calm own peer =
    let x = p.thread in
    let ne : y ≢ x = λ e. own (ap (λ z. Some z) (sym e)) in
    let did = finish_op scenario s x now (thread_at s x).left in
    given_thread scenario did.state x y (thread_at did.state x).state ne
    ∙ finished_thread scenario s x now y (thread_at s x).left calm (record { own = ne; peer = peer })

-- ---- the bill and its test

pub billed_sleepers : (s : SchedulerState) (e : Entry) (running : Option Pick) → sleepers_of (billed s e running) ≡ sleepers_of s
billed_sleepers s e None = refl
billed_sleepers s e (Some p) = sleep_stays s p.thread _ refl

pub tested_sleepers : (s : SchedulerState) (h : List Entry) (e : Entry) → sleepers_of (tested s h e).state ≡ sleepers_of s
tested_sleepers s h e = tested_by s.shape.bankruptcy s _ _ (λ u. sleepers_of u ≡ sleepers_of s) refl (λ p. refl)

-- the timer after both
pub tested_timer : (s2 t0 t : SchedulerState) (h : List Entry) (e : Entry) (running : Option Pick) (reboot : Option ℕ) (timer : List (Option ℕ))
    → timer ≡ sleepers_of s2 → t0 ≡ billed s2 e running → tested t0 h e ≡ record { state = t; reboot = reboot } → timer ≡ sleepers_of t
tested_timer s2 t0 t h e running reboot timer timed e1 e2 =
    timed ∙ sym (billed_sleepers s2 e running) ∙ ap sleepers_of (sym e1) ∙ sym (tested_sleepers t0 h e) ∙ ap (λ (z : Tested). sleepers_of z.state) e2

-- and after the operation, of those with whom it has nothing to do
pub settled_timer : (scenario : Scenario) (t : SchedulerState) (now y : ℕ) (running : Option Pick) (did : Effect) (timer : List (Option ℕ))
    → timer ≡ sleepers_of t → settled scenario t now running ≡ did → is_exit did.done ≡ false → option_map (λ (p : Pick). p.thread) running ≢ Some y → peer_of did.done ≢ Some y → IsTimed did.state timer y
settled_timer scenario t now y running did timer timed is calm own peer =
    timed_each t timer timed y ∙ ap (λ (u : ThreadNow). sleeps_until u.state) (sym stays)
  where
    stays : thread_at did.state y ≡ thread_at t y
    stays = subst (λ (z : Effect). is_exit z.done ≡ false → peer_of z.done ≢ Some y → thread_at z.state y ≡ thread_at t y) is
        (λ calm peer. settled_thread scenario t now y running calm own peer) calm peer

-- ---- the pick

chosen_sleepers : (s : SchedulerState) (parts : List PartFacts) (c : ℕ) (best : Option Contender) → greatest s.shape.free parts (contenders s) ≡ best → sleepers_of (chosen s parts c best) ≡ sleepers_of s
chosen_sleepers s parts c None is = refl
chosen_sleepers s parts c (Some b) is =
    sleep_stays s b.thread (record (thread_at s b.thread) { state = Running c }) (ap sleeps_until (sym (greatest_ready s s.shape.free parts b is).ready))

flagged_sleepers : (s : SchedulerState) (now : ℕ) (o : Option ℕ) → sleepers_of (with_flag s now o) ≡ sleepers_of s
flagged_sleepers s now None = refl
flagged_sleepers s now (Some d) = refl

pub picked_sleepers : (s : SchedulerState) (h : List Entry) (c now : ℕ) (e : Entry) → sleepers_of (pick s h c now e).state ≡ sleepers_of s
picked_sleepers s h c now e =
    let parts = all_parts s.shape s.rows (h ++ e ∷ []) (now / s.shape.tick) in
    let best = greatest s.shape.free parts (contenders s) in
    let picked = chosen s parts c best in
    flagged_sleepers picked now (flag_for picked h parts c now (greatest s.shape.free parts (contenders picked))) ∙ chosen_sleepers s parts c best refl
