-- What the wakes, the bill and the operation leave as it was.
use Rattle.std.proofs.Common.{◌≡◌, ℕ, zero, suc, ◌/◌, List, [], ◌∷◌, length, refl, sym, ◌∙◌, ap, cond, Bool, true, false, Option, Some, None, length-set}
use Rattle.std.specs.List.{fold}
use Rattle.aps_model.specs.declared.entry.Entry.{Entry}
use Rattle.aps_model.specs.declared.merit.Contender.{Contender}
use Rattle.aps_model.specs.declared.merit.PartFacts.{PartFacts}
use Rattle.aps_model.specs.declared.program.Op.{Op}
use Rattle.aps_model.specs.declared.program.Op.TheVariants.{Run, Forever, Sleep, Yield, Send, Receive, Reply, Join, Priority, CriticalOn, CriticalOff, Repeat, Exit}
use Rattle.aps_model.specs.declared.state.Pick.{Pick}
use Rattle.aps_model.specs.declared.state.State.{State}
use Rattle.aps_model.specs.declared.state.State.TheVariants.{Ready, Running, Sleeping, Sending, Receiving, Replying, Gone}
use Rattle.aps_model.specs.declared.state.ThreadNow.{ThreadNow}
use Rattle.aps_model.specs.Bill.{spend}
use Rattle.aps_model.specs.Effect.{effect, joined}
use Rattle.aps_model.specs.Flag.{with_flag}
use Rattle.aps_model.specs.Inherit.{client_of}
use Rattle.aps_model.specs.Messages.{first_message, received, received_message, replied, sent}
use Rattle.aps_model.specs.Operation.{go_on, is_slice_over, with_ready, with_stamped}
use Rattle.aps_model.specs.Partition.{partition_named}
use Rattle.aps_model.specs.Scenario.{Scenario, op_at, thread_row}
use Rattle.aps_model.specs.SchedulerState.{Message, SchedulerState, channel_at, thread_at, with_state, with_thread}
use Rattle.aps_model.specs.Step.{chosen, enter_next, finish_op, give_back, settled}
use Rattle.aps_model.specs.TickWork.{do_commands, has_tick_work, tick_work, wake_all, waking}
use Rattle.aps_core.specs.Kept.{KeepsFrame}

pub kept_self : (s : SchedulerState) → KeepsFrame s s
kept_self s = record { rows = refl; shape = refl; threads = refl; cpus = refl; replies = refl; changes = refl }

pub kept_then : {s t u : SchedulerState} → KeepsFrame s t → KeepsFrame t u → KeepsFrame s u
kept_then a b = record {
  rows = b.rows ∙ a.rows;
  shape = b.shape ∙ a.shape;
  threads = b.threads ∙ a.threads;
  cpus = b.cpus ∙ a.cpus;
  replies = b.replies ∙ a.replies;
  changes = b.changes ∙ a.changes;
}

thread_kept : (s : SchedulerState) (x : ℕ) (t : ThreadNow) → KeepsFrame s (with_thread s x t)
thread_kept s x t = record { rows = refl; shape = refl; threads = length-set s.threads x t; cpus = refl; replies = refl; changes = refl }

stamped_kept : (s : SchedulerState) (x : ℕ) (t : ThreadNow) → KeepsFrame s (with_stamped s x t)
stamped_kept s x t = record { rows = refl; shape = refl; threads = length-set s.threads x _; cpus = refl; replies = refl; changes = refl }

ready_kept : (s : SchedulerState) (x : ℕ) (t : ThreadNow) (st : State) → KeepsFrame s (with_ready s x t st)
ready_kept s x t Ready = stamped_kept s x t
ready_kept s x t (Running c) = thread_kept s x t
ready_kept s x t (Sleeping until) = thread_kept s x t
ready_kept s x t (Sending d) = thread_kept s x t
ready_kept s x t (Receiving d) = thread_kept s x t
ready_kept s x t (Replying y) = thread_kept s x t
ready_kept s x t Gone = thread_kept s x t

woken_kept : (scenario : Scenario) (s : SchedulerState) (x now : ℕ) → KeepsFrame s (go_on scenario s x now)
woken_kept scenario s x now = ready_kept s x _ _

-- ---- the work of the tick

all_woken_kept : (scenario : Scenario) (now : ℕ) (sleepers : List (ℕ × ℕ)) (s : SchedulerState) → KeepsFrame s (fold (λ state (sleeper : ℕ × ℕ). go_on scenario state sleeper.1 now) s sleepers)
all_woken_kept scenario now [] s = kept_self s
all_woken_kept scenario now (z ∷ zs) s = kept_then (woken_kept scenario s z.1 now) (all_woken_kept scenario now zs (go_on scenario s z.1 now))

pub wake_kept : (scenario : Scenario) (now : ℕ) (s : SchedulerState) → KeepsFrame s (wake_all scenario now s)
wake_kept scenario now s = all_woken_kept scenario now (waking s now) s

-- where the tick begins with this step
pub ticked : (scenario : Scenario) (s : SchedulerState) (h : List Entry) (now : ℕ) → has_tick_work s h now ≡ true → tick_work scenario s h now ≡ wake_all scenario now (do_commands scenario h (now / s.shape.tick) s)
ticked scenario s h now works =
    ap (λ t. elim t as (λ _. SchedulerState) [ true ↦ wake_all scenario now (do_commands scenario h (now / s.shape.tick) s) | false ↦ s ]) works

-- ---- the bill

pub spent_kept : (s : SchedulerState) (ns : ℕ) (running : Option Pick) → KeepsFrame s (spend s ns running)
spent_kept s ns None = kept_self s
spent_kept s ns (Some pick) = thread_kept s pick.thread _

-- ---- the operation

sent_kept : (scenario : Scenario) (s : SchedulerState) (x c now : ℕ) (rs : List ℕ) → KeepsFrame s (sent scenario s x c now rs).state
sent_kept scenario s x c now [] = record { rows = refl; shape = refl; threads = length-set s.threads x _; cpus = refl; replies = refl; changes = refl }
sent_kept scenario s x c now (y ∷ rest) =
    kept_then (record { rows = refl; shape = refl; threads = length-set s.threads x _; cpus = refl; replies = refl; changes = refl }) (woken_kept scenario _ y now)

received_kept : (s : SchedulerState) (x c : ℕ) (o : Option ℕ) → KeepsFrame s (received s x c o).state
received_kept s x c (Some client) = kept_self s
received_kept s x c None = by_message (first_message (channel_at s c).messages)
  where
    by_message : (o : Option Message) → KeepsFrame s (received_message s x c o).state
    by_message None = record { rows = refl; shape = refl; threads = length-set s.threads x _; cpus = refl; replies = refl; changes = refl }
    by_message (Some m) = record { rows = refl; shape = refl; threads = length-set s.threads m.sender _; cpus = refl; replies = refl; changes = refl }

replied_kept : (scenario : Scenario) (s : SchedulerState) (x now : ℕ) (o : Option ℕ) → KeepsFrame s (replied scenario s x now o).state
replied_kept scenario s x now None = kept_self s
replied_kept scenario s x now (Some client) =
    kept_then (record { rows = refl; shape = refl; threads = refl; cpus = refl; replies = refl; changes = refl }) (woken_kept scenario _ client now)

joined_kept : (s : SchedulerState) (x : ℕ) (o : Option ℕ) → KeepsFrame s (joined s x o).state
joined_kept s x None = kept_self s
joined_kept s x (Some p) = thread_kept s x _

effect_kept : (scenario : Scenario) (s : SchedulerState) (x now : ℕ) (op : Op) → KeepsFrame s (effect scenario s x now op).state
effect_kept scenario s x now (Run ns) = kept_self s
effect_kept scenario s x now Forever = kept_self s
effect_kept scenario s x now (Sleep ns) = kept_self s
effect_kept scenario s x now Yield = stamped_kept s x (thread_at s x)
effect_kept scenario s x now (Send c) = sent_kept scenario s x c now (channel_at s c).receivers
effect_kept scenario s x now (Receive c) = received_kept s x c (client_of s.triples x)
effect_kept scenario s x now Reply = replied_kept scenario s x now (client_of s.triples x)
effect_kept scenario s x now (Join name) = joined_kept s x (partition_named s.rows name)
effect_kept scenario s x now (Priority n) = stamped_kept s x (record (thread_at s x) { own = record (thread_at s x).own { priority = n } })
effect_kept scenario s x now CriticalOn = thread_kept s x _
effect_kept scenario s x now CriticalOff = thread_kept s x _
effect_kept scenario s x now Repeat = kept_self s
effect_kept scenario s x now Exit = kept_then (replied_kept scenario s x now (client_of s.triples x)) (thread_kept _ x _)

entered_kept : (scenario : Scenario) (s : SchedulerState) (x now : ℕ) (op : Op) (st : State) → KeepsFrame s (enter_next scenario s x now op st)
entered_kept scenario s x now op (Running c) = thread_kept s x _
entered_kept scenario s x now op Ready = kept_self s
entered_kept scenario s x now op (Sleeping until) = kept_self s
entered_kept scenario s x now op (Sending d) = kept_self s
entered_kept scenario s x now op (Receiving d) = kept_self s
entered_kept scenario s x now op (Replying y) = kept_self s
entered_kept scenario s x now op Gone = kept_self s

finished_kept : (scenario : Scenario) (s : SchedulerState) (x now : ℕ) (left : Option ℕ) → KeepsFrame s (finish_op scenario s x now left).state
finished_kept scenario s x now None = kept_self s
finished_kept scenario s x now (Some (suc n)) = kept_self s
finished_kept scenario s x now (Some zero) =
    let op = op_at scenario x (thread_at s x).place in
    let did = (effect scenario s x now op).state in
    kept_then (effect_kept scenario s x now op) (entered_kept scenario did x now op (thread_at did x).state)

given_kept : (scenario : Scenario) (s : SchedulerState) (x : ℕ) (st : State) → KeepsFrame s (give_back scenario s x st)
given_kept scenario s x (Running c) = by_slice (is_slice_over s.shape (thread_row scenario x).policy (thread_at s x).since)
  where
    by_slice : (over : Bool) → KeepsFrame s (cond over (with_stamped s x (record (thread_at s x) { state = Ready })) (with_state s x Ready))
    by_slice true = stamped_kept s x (record (thread_at s x) { state = Ready })
    by_slice false = thread_kept s x (record (thread_at s x) { state = Ready })
given_kept scenario s x Ready = kept_self s
given_kept scenario s x (Sleeping until) = kept_self s
given_kept scenario s x (Sending d) = kept_self s
given_kept scenario s x (Receiving d) = kept_self s
given_kept scenario s x (Replying y) = kept_self s
given_kept scenario s x Gone = kept_self s

pub settled_kept : (scenario : Scenario) (s : SchedulerState) (now : ℕ) (running : Option Pick) → KeepsFrame s (settled scenario s now running).state
settled_kept scenario s now None = kept_self s
settled_kept scenario s now (Some p) =
    let did = (finish_op scenario s p.thread now (thread_at s p.thread).left).state in
    kept_then (finished_kept scenario s p.thread now (thread_at s p.thread).left) (given_kept scenario did p.thread (thread_at did p.thread).state)

-- ---- the pick

pub chosen_kept : (s : SchedulerState) (parts : List PartFacts) (c : ℕ) (best : Option Contender) → KeepsFrame s (chosen s parts c best)
chosen_kept s parts c None = record { rows = refl; shape = refl; threads = refl; cpus = length-set s.cpus c _; replies = refl; changes = refl }
chosen_kept s parts c (Some b) = record { rows = refl; shape = refl; threads = length-set s.threads b.thread _; cpus = length-set s.cpus c _; replies = refl; changes = refl }

pub flagged_kept : (s : SchedulerState) (now : ℕ) (o : Option ℕ) → KeepsFrame s (with_flag s now o)
flagged_kept s now None = kept_self s
flagged_kept s now (Some d) = record { rows = refl; shape = refl; threads = refl; cpus = length-set s.cpus d _; replies = refl; changes = refl }

-- where the tick begins, its commands leave no more replies and changes than its work
pub record HasFewDone (t u : SchedulerState) : Type 0 where
  pub replies : length u.replies ≡ length t.replies
  pub changes : length u.changes ≡ length t.changes

pub ticked_lists : (scenario : Scenario) (s : SchedulerState) (h : List Entry) (now tick : ℕ) → has_tick_work s h now ≡ true → tick ≡ now / s.shape.tick
    → HasFewDone (tick_work scenario s h now) (do_commands scenario h tick s)
ticked_lists scenario s h now tick works at =
    let mid = do_commands scenario h (now / s.shape.tick) s in
    let kept = wake_kept scenario now mid in
    let whole = ticked scenario s h now works in
    record {
      replies = ap (λ j. length (do_commands scenario h j s).replies) at ∙ sym (ap length kept.replies) ∙ ap (λ (u : SchedulerState). length u.replies) (sym whole);
      changes = ap (λ j. length (do_commands scenario h j s).changes) at ∙ sym (ap length kept.changes) ∙ ap (λ (u : SchedulerState). length u.changes) (sym whole);
    }
