-- Ten times the parts pass through each part of a step that moves threads.
use Rattle.std.proofs.Common.{◌≡◌, ℕ, zero, suc, ◌+◌, ◌/◌, ◌++◌, ◌&&◌, List, [], ◌∷◌, map, refl, sym, ◌∙◌, ap, Bool, true, false, if◌then◌else◌, nat_eq, nat_lt, Option, Some, None, slice_set}
use Rattle.std.specs.Str.{bytes_eq}
use Rattle.std.proofs.lemmas.List.{map-set}
use Rattle.aps_model.specs.declared.command.ChangeKind.TheVariants.{Cancelled}
use Rattle.aps_model.specs.declared.entry.Done.TheVariants.{SendTo, ReplyFreed, Exit as DoneExit}
use Rattle.aps_model.specs.declared.entry.Entry.{Entry}
use Rattle.aps_model.specs.declared.partition.PartitionRow.{PartitionRow}
use Rattle.aps_model.specs.declared.program.Op.{Op}
use Rattle.aps_model.specs.declared.program.Op.TheVariants.{Run, Forever, Sleep, Yield, Send, Receive, Reply, Join, Priority, CriticalOn, CriticalOff, Repeat, Exit}
use Rattle.aps_model.specs.declared.shape.Bankruptcy.{Bankruptcy}
use Rattle.aps_model.specs.declared.shape.Bankruptcy.TheVariants.{Basic, Cancel, Reboot}
use Rattle.aps_model.specs.declared.shape.Shape.{Shape}
use Rattle.aps_model.specs.declared.scenario.Policy.{Policy}
use Rattle.aps_model.specs.declared.scenario.Policy.TheVariants.{Fifo, Rr}
use Rattle.aps_model.specs.declared.state.Pick.{Pick}
use Rattle.aps_model.specs.declared.state.State.{State}
use Rattle.aps_model.specs.declared.state.State.TheVariants.{Ready, Running, Sleeping, Sending, Receiving, Replying, Gone}
use Rattle.aps_model.specs.declared.state.ThreadNow.{ThreadNow}
use Rattle.aps_model.specs.Bill.{Tested, after_test, bankrupt, cancel, exceeding, spend}
use Rattle.aps_model.specs.Effect.{effect, joined}
use Rattle.aps_model.specs.Inherit.{client_of, without_server}
use Rattle.aps_model.specs.Messages.{Effect, first_message, received, received_message, replied, sent}
use Rattle.aps_model.specs.Operation.{duration, enter, go_on, is_slice_over, place_after, with_ready, with_stamped}
use Rattle.aps_model.specs.Partition.{partition_named, row_or_none}
use Rattle.aps_model.specs.Scenario.{Scenario, op_at, thread_row}
use Rattle.aps_model.specs.SchedulerState.{Message, SchedulerState, channel_at, thread_at, with_channel, with_state, with_triple}
use Rattle.aps_model.specs.Step.{do_op, enter_next, finish_op, give_back, settled, tested}
use Rattle.aps_model.specs.Upgrade.{row_times_ten}
use Rattle.aps_model.specs.Usage.{window_critical}
use Rattle.laws_upgrade.specs.TimesTen.{scenario_times_ten, shape_times_ten, state_times_ten}
use Rattle.laws_upgrade.proofs.Alike.{position_map}
use Rattle.laws_upgrade.proofs.Picks.{row_ten}

abbrev pub effect_times_ten : Effect → Effect
effect_times_ten e = record e { state = state_times_ten e.state }

-- ---- a thread enters an operation

duration_ten : (shape : Shape) (op : Op) → duration (shape_times_ten shape) op ≡ duration shape op
duration_ten shape (Run ns) = refl
duration_ten shape Forever = refl
duration_ten shape (Sleep ns) = refl
duration_ten shape Yield = refl
duration_ten shape (Send c) = refl
duration_ten shape (Receive c) = refl
duration_ten shape Reply = refl
duration_ten shape (Join name) = refl
duration_ten shape (Priority n) = refl
duration_ten shape CriticalOn = refl
duration_ten shape CriticalOff = refl
duration_ten shape Repeat = refl
duration_ten shape Exit = refl

enter_ten : (scenario : Scenario) (shape : Shape) (x place now : ℕ) (otherwise : State) (thread : ThreadNow)
    → enter (scenario_times_ten scenario) (shape_times_ten shape) x place now otherwise thread ≡ enter scenario shape x place now otherwise thread
enter_ten scenario shape x place now otherwise thread =
    ap (λ left. record (enter scenario shape x place now otherwise thread) { left = left }) (duration_ten shape (op_at scenario x place))

with_ready_ten : (s : SchedulerState) (x : ℕ) (thread : ThreadNow) (state : State)
    → with_ready (state_times_ten s) x thread state ≡ state_times_ten (with_ready s x thread state)
with_ready_ten s x thread Ready = refl
with_ready_ten s x thread (Running c) = refl
with_ready_ten s x thread (Sleeping until) = refl
with_ready_ten s x thread (Sending c) = refl
with_ready_ten s x thread (Receiving c) = refl
with_ready_ten s x thread (Replying r) = refl
with_ready_ten s x thread Gone = refl

pub go_on_ten : (scenario : Scenario) (s : SchedulerState) (x now : ℕ)
    → go_on (scenario_times_ten scenario) (state_times_ten s) x now ≡ state_times_ten (go_on scenario s x now)
go_on_ten scenario s x now =
    ap (λ (t : ThreadNow). with_ready (state_times_ten s) x t t.state)
    (enter_ten scenario s.shape x ((thread_at s x).place + 1) now Ready (thread_at s x))
    ∙ with_ready_ten s x (enter scenario s.shape x ((thread_at s x).place + 1) now Ready (thread_at s x))
    (enter scenario s.shape x ((thread_at s x).place + 1) now Ready (thread_at s x)).state

-- ---- operations

sent_ten : (scenario : Scenario) (s : SchedulerState) (x c now : ℕ) (receivers : List ℕ)
    → sent (scenario_times_ten scenario) (state_times_ten s) x c now receivers ≡ effect_times_ten (sent scenario s x c now receivers)
sent_ten scenario s x c now [] = refl
sent_ten scenario s x c now (r ∷ rest) =
    ap (λ t. record { state = t; done = SendTo r })
    (go_on_ten scenario (with_state (with_triple (with_channel s c (record (channel_at s c) { receivers = rest })) r x c) x (Replying r)) r now)

got_ten : (s : SchedulerState) (x c : ℕ) (first : Option Message)
    → received_message (state_times_ten s) x c first ≡ effect_times_ten (received_message s x c first)
got_ten s x c None = refl
got_ten s x c (Some m) = refl

received_ten : (s : SchedulerState) (x c : ℕ) (client : Option ℕ) → received (state_times_ten s) x c client ≡ effect_times_ten (received s x c client)
received_ten s x c (Some client) = refl
received_ten s x c None = got_ten s x c (first_message (channel_at s c).messages)

replied_ten : (scenario : Scenario) (s : SchedulerState) (x now : ℕ) (client : Option ℕ)
    → replied (scenario_times_ten scenario) (state_times_ten s) x now client ≡ effect_times_ten (replied scenario s x now client)
replied_ten scenario s x now None = refl
replied_ten scenario s x now (Some client) =
    ap (λ t. record { state = t; done = ReplyFreed client }) (go_on_ten scenario (record s { triples = without_server s.triples x }) client now)

joined_ten : (s : SchedulerState) (x : ℕ) (p : Option ℕ) → joined (state_times_ten s) x p ≡ effect_times_ten (joined s x p)
joined_ten s x None = refl
joined_ten s x (Some p) = refl

pub named_ten : (rows : List PartitionRow) (name : List ℕ) → partition_named (map row_times_ten rows) name ≡ partition_named rows name
named_ten rows name =
    position_map (λ (row : PartitionRow). bytes_eq row.name name) (λ (row : PartitionRow). bytes_eq row.name name) row_times_ten (λ row. refl) rows

effect_ten : (scenario : Scenario) (s : SchedulerState) (x now : ℕ) (op : Op)
    → effect (scenario_times_ten scenario) (state_times_ten s) x now op ≡ effect_times_ten (effect scenario s x now op)
effect_ten scenario s x now (Run ns) = refl
effect_ten scenario s x now Forever = refl
effect_ten scenario s x now (Sleep ns) = refl
effect_ten scenario s x now Yield = refl
effect_ten scenario s x now (Send c) = sent_ten scenario s x c now (channel_at s c).receivers
effect_ten scenario s x now (Receive c) = received_ten s x c (client_of s.triples x)
effect_ten scenario s x now Reply = replied_ten scenario s x now (client_of s.triples x)
effect_ten scenario s x now (Join name) =
    ap (joined (state_times_ten s) x) (named_ten s.rows name) ∙ joined_ten s x (partition_named s.rows name)
effect_ten scenario s x now (Priority n) = refl
effect_ten scenario s x now CriticalOn = refl
effect_ten scenario s x now CriticalOff = refl
effect_ten scenario s x now Repeat = refl
effect_ten scenario s x now Exit =
    ap (λ (e : Effect). record { state = with_state e.state x Gone; done = DoneExit }) (replied_ten scenario s x now (client_of s.triples x))

-- ---- settled

next_ten : (scenario : Scenario) (s : SchedulerState) (x now : ℕ) (op : Op) (state : State)
    → enter_next (scenario_times_ten scenario) (state_times_ten s) x now op state ≡ state_times_ten (enter_next scenario s x now op state)
next_ten scenario s x now op Ready = refl
next_ten scenario s x now op (Running c) =
    ap (λ t. record (state_times_ten s) { threads = slice_set s.threads x t })
    (enter_ten scenario s.shape x (place_after op (thread_at s x).place) now (Running c) (thread_at s x))
next_ten scenario s x now op (Sleeping until) = refl
next_ten scenario s x now op (Sending c) = refl
next_ten scenario s x now op (Receiving c) = refl
next_ten scenario s x now op (Replying r) = refl
next_ten scenario s x now op Gone = refl

do_op_ten : (scenario : Scenario) (s : SchedulerState) (x now : ℕ) (op : Op)
    → do_op (scenario_times_ten scenario) (state_times_ten s) x now op ≡ effect_times_ten (do_op scenario s x now op)
do_op_ten scenario s x now op =
    ap (λ (e : Effect). record { state = enter_next (scenario_times_ten scenario) e.state x now op (thread_at e.state x).state; done = e.done })
    (effect_ten scenario s x now op)
    ∙ ap (λ t. record { state = t; done = (effect scenario s x now op).done })
    (next_ten scenario (effect scenario s x now op).state x now op (thread_at (effect scenario s x now op).state x).state)

finish_ten : (scenario : Scenario) (s : SchedulerState) (x now : ℕ) (left : Option ℕ)
    → finish_op (scenario_times_ten scenario) (state_times_ten s) x now left ≡ effect_times_ten (finish_op scenario s x now left)
finish_ten scenario s x now (Some zero) = do_op_ten scenario s x now (op_at scenario x (thread_at s x).place)
finish_ten scenario s x now (Some (suc n)) = refl
finish_ten scenario s x now None = refl

slice_ten : (shape : Shape) (policy : Policy) (since : ℕ) → is_slice_over (shape_times_ten shape) policy since ≡ is_slice_over shape policy since
slice_ten shape Fifo since = refl
slice_ten shape Rr since = refl

back_by : (over : Bool) (s : SchedulerState) (x : ℕ)
    → (if over then with_stamped (state_times_ten s) x (record (thread_at s x) { state = Ready }) else with_state (state_times_ten s) x Ready)
    ≡ state_times_ten (if over then with_stamped s x (record (thread_at s x) { state = Ready }) else with_state s x Ready)
back_by true s x = refl
back_by false s x = refl

back_ten : (scenario : Scenario) (s : SchedulerState) (x : ℕ) (state : State)
    → give_back (scenario_times_ten scenario) (state_times_ten s) x state ≡ state_times_ten (give_back scenario s x state)
back_ten scenario s x Ready = refl
back_ten scenario s x (Running c) =
    ap (λ over. if over then with_stamped (state_times_ten s) x (record (thread_at s x) { state = Ready }) else with_state (state_times_ten s) x Ready)
    (slice_ten s.shape (thread_row scenario x).policy (thread_at s x).since)
    ∙ back_by (is_slice_over s.shape (thread_row scenario x).policy (thread_at s x).since) s x
back_ten scenario s x (Sleeping until) = refl
back_ten scenario s x (Sending c) = refl
back_ten scenario s x (Receiving c) = refl
back_ten scenario s x (Replying r) = refl
back_ten scenario s x Gone = refl

pub settled_ten : (scenario : Scenario) (s : SchedulerState) (now : ℕ) (running : Option Pick)
    → settled (scenario_times_ten scenario) (state_times_ten s) now running ≡ effect_times_ten (settled scenario s now running)
settled_ten scenario s now None = refl
settled_ten scenario s now (Some pick) =
    ap (λ (e : Effect). record { state = give_back (scenario_times_ten scenario) e.state pick.thread (thread_at e.state pick.thread).state; done = e.done })
    (finish_ten scenario s pick.thread now (thread_at s pick.thread).left)
    ∙ ap (λ t. record { state = t; done = (finish_op scenario s pick.thread now (thread_at s pick.thread).left).done })
    (back_ten scenario (finish_op scenario s pick.thread now (thread_at s pick.thread).left).state pick.thread (thread_at (finish_op scenario s pick.thread now (thread_at s pick.thread).left).state pick.thread).state)

-- ---- billed and tested

pub spend_ten : (s : SchedulerState) (ns : ℕ) (running : Option Pick) → spend (state_times_ten s) ns running ≡ state_times_ten (spend s ns running)
spend_ten s ns None = refl
spend_ten s ns (Some pick) = refl

exceeding_ten : (s : SchedulerState) (h : List Entry) (j : ℕ) (p : Option ℕ) → exceeding (state_times_ten s) h j p ≡ exceeding s h j p
exceeding_ten s h j None = refl
exceeding_ten s h j (Some p) =
    ap (λ (row : PartitionRow). if nat_lt row.critical (window_critical s.shape h j p) then Some p else None) (row_ten s.rows p)

cancel_ten : (s : SchedulerState) (j p : ℕ) → cancel (state_times_ten s) j p ≡ state_times_ten (cancel s j p)
cancel_ten s j p =
    ap (λ (row : PartitionRow). record (state_times_ten s) {
      rows = slice_set (map row_times_ten s.rows) p (record row { critical = 0 });
      changes = if nat_eq row.critical 0 then s.changes else s.changes ++ (record { tick = j; kind = Cancelled p }) ∷ [];
    }) (row_ten s.rows p)
    ∙ ap (λ rows. record (state_times_ten (cancel s j p)) { rows = rows })
    (sym (map-set row_times_ten s.rows p (record (row_or_none s.rows p) { critical = 0 })))

abbrev pub tested_times_ten : Tested → Tested
tested_times_ten test = record test { state = state_times_ten test.state }

after_test_ten : (policy : Bankruptcy) (s : SchedulerState) (j : ℕ) (p : Option ℕ)
    → after_test policy (state_times_ten s) j p ≡ tested_times_ten (after_test policy s j p)
after_test_ten Basic s j None = refl
after_test_ten Cancel s j None = refl
after_test_ten Reboot s j None = refl
after_test_ten Basic s j (Some p) = refl
after_test_ten Cancel s j (Some p) = ap (λ t. record { state = t; reboot = None }) (cancel_ten s j p)
after_test_ten Reboot s j (Some p) = refl

bankrupt_ten : (s : SchedulerState) (h : List Entry) (e : Entry) → bankrupt (state_times_ten s) h e ≡ bankrupt s h e
bankrupt_ten s h e =
    ap (λ p. if e.critical && nat_lt e.from e.to then p else None) (exceeding_ten s h (e.to / s.shape.tick) e.billed)

pub tested_ten : (s : SchedulerState) (h : List Entry) (e : Entry) → tested (state_times_ten s) h e ≡ tested_times_ten (tested s h e)
tested_ten s h e =
    ap (after_test s.shape.bankruptcy (state_times_ten s) (e.to / s.shape.tick)) (bankrupt_ten s (h ++ e ∷ []) e)
    ∙ after_test_ten s.shape.bankruptcy s (e.to / s.shape.tick) (bankrupt s (h ++ e ∷ []) e)
