-- What an entry says of a send, or of a message that is taken, was so.
use Rattle.std.proofs.Common.{◌≡◌, ℕ, zero, suc, ◌≤◌, List, [], ◌∷◌, ◌++◌, true, false, Option, Some, None, refl, sym, ap, subst, ◌∙◌}
use Rattle.aps_model.specs.declared.entry.Done.{Done}
use Rattle.aps_model.specs.declared.entry.Done.TheVariants.{Nothing, ReceiveGot}
use Rattle.aps_model.specs.declared.entry.Entry.{Entry}
use Rattle.aps_model.specs.declared.entry.Order.{Order}
use Rattle.aps_model.specs.declared.program.Op.{Op}
use Rattle.aps_model.specs.declared.program.Op.TheVariants.{Run, Forever, Sleep, Yield, Send, Receive, Reply, Join, Priority, CriticalOn, CriticalOff, Repeat, Exit}
use Rattle.aps_model.specs.declared.state.Pick.{Pick}
use Rattle.aps_model.specs.After.{state_after}
use Rattle.aps_model.specs.Bill.{bill_of}
use Rattle.aps_model.specs.Due.{due, last_end}
use Rattle.aps_model.specs.Effect.{effect, joined}
use Rattle.aps_model.specs.Inherit.{client_of}
use Rattle.aps_model.specs.Legal.{IsLegal}
use Rattle.aps_model.specs.Messages.{first_message, received, received_message, replied, sent}
use Rattle.aps_model.specs.Partition.{partition_named}
use Rattle.aps_model.specs.Scenario.{Scenario, op_at}
use Rattle.aps_model.specs.SchedulerState.{ChannelNow, Message, SchedulerState, channel_at, cpu_at, no_channel, thread_at}
use Rattle.aps_model.specs.Step.{Step, finish_op, settled, step}
use Rattle.aps_model.specs.Valid.{IsScenario}
use Rattle.std.specs.Prelude.{slice_index_or}
use Rattle.laws_runs.specs.Untouched.{AgreesOnRunning}
use Rattle.laws_runs.specs.Waits.{IsPlain, times_sent}
use Rattle.laws_runs.proofs.ListsFit.{tested_lists}
use Rattle.laws_runs.proofs.Sound.{legal_last, sound}
use Rattle.laws_runs.proofs.StepOf.{step_by, tested_at}
use Rattle.laws_runs.proofs.WaitFacts.{first_stands}
use Rattle.view_explain.proofs.Beside.{place_before}
use Rattle.view_latency.specs.News.{is_send}

-- a thread that has sent was at a send, and a message that was taken waited at a channel
pub record IsSo (s : SchedulerState) (op : Op) (done : Done) : Type 0 where
  pub sends : is_send done ≡ true → (c : ℕ) × (op ≡ Send c)
  pub takes : (y : ℕ) → done ≡ ReceiveGot y → (c : ℕ) × (1 ≤ times_sent y (channel_at s c).messages)

-- ---- of each operation

neither : (s : SchedulerState) (op : Op) (done : Done) → is_send done ≡ false → ((y : ℕ) → done ≡ ReceiveGot y → ⊥) → IsSo s op done
neither s op done none never = record { sends = λ is. absurd (clash (sym none ∙ is)); takes = λ y is. absurd (never y is) }
  where
    clash : false ≡ true → ⊥
    clash same = cc

sent_so : (scenario : Scenario) (s : SchedulerState) (x d now : ℕ) (rs : List ℕ) → IsSo s (Send d) (sent scenario s x d now rs).done
sent_so scenario s x d now [] = record { sends = λ is. (d, refl); takes = λ y is. absurd cc }
sent_so scenario s x d now (r ∷ rest) = record { sends = λ is. (d, refl); takes = λ y is. absurd cc }

got_same : (a b : ℕ) → ReceiveGot a ≡ ReceiveGot b → a ≡ b
got_same a b same = cc

message_so : (s : SchedulerState) (x d : ℕ) (o : Option Message) → first_message (channel_at s d).messages ≡ o → IsSo s (Receive d) (received_message s x d o).done
message_so s x d None is = neither s (Receive d) _ refl (λ y k. cc)
message_so s x d (Some m) is = record {
  sends = λ k. absurd cc;
  takes = λ y k. (d, subst (λ z. 1 ≤ times_sent z (channel_at s d).messages) (got_same m.sender y k) (first_stands (channel_at s d).messages m is));
}

received_so : (s : SchedulerState) (x d : ℕ) (o : Option ℕ) → IsSo s (Receive d) (received s x d o).done
received_so s x d (Some y) = neither s (Receive d) _ refl (λ y k. cc)
received_so s x d None = message_so s x d (first_message (channel_at s d).messages) refl

replied_so : (scenario : Scenario) (s : SchedulerState) (x now : ℕ) (o : Option ℕ) → IsSo s Reply (replied scenario s x now o).done
replied_so scenario s x now None = neither s Reply _ refl (λ y k. cc)
replied_so scenario s x now (Some y) = neither s Reply _ refl (λ y k. cc)

joined_so : (s : SchedulerState) (x : ℕ) (name : List ℕ) (o : Option ℕ) → IsSo s (Join name) (joined s x o).done
joined_so s x name None = neither s (Join name) _ refl (λ y k. cc)
joined_so s x name (Some p) = neither s (Join name) _ refl (λ y k. cc)

effect_so : (scenario : Scenario) (s : SchedulerState) (x now : ℕ) (op : Op) → IsSo s op (effect scenario s x now op).done
effect_so scenario s x now (Run ns) = neither s _ _ refl (λ y k. cc)
effect_so scenario s x now Forever = neither s _ _ refl (λ y k. cc)
effect_so scenario s x now (Sleep ns) = neither s _ _ refl (λ y k. cc)
effect_so scenario s x now Yield = neither s _ _ refl (λ y k. cc)
effect_so scenario s x now (Send d) = sent_so scenario s x d now (channel_at s d).receivers
effect_so scenario s x now (Receive d) = received_so s x d (client_of s.triples x)
effect_so scenario s x now Reply = replied_so scenario s x now (client_of s.triples x)
effect_so scenario s x now (Join name) = joined_so s x name (partition_named s.rows name)
effect_so scenario s x now (Priority n) = neither s _ _ refl (λ y k. cc)
effect_so scenario s x now CriticalOn = neither s _ _ refl (λ y k. cc)
effect_so scenario s x now CriticalOff = neither s _ _ refl (λ y k. cc)
effect_so scenario s x now Repeat = neither s _ _ refl (λ y k. cc)
effect_so scenario s x now Exit = neither s _ _ refl (λ y k. cc)

finished_so : (scenario : Scenario) (s : SchedulerState) (x now : ℕ) (left : Option ℕ) → IsSo s (op_at scenario x (thread_at s x).place) (finish_op scenario s x now left).done
finished_so scenario s x now None = neither s _ _ refl (λ y k. cc)
finished_so scenario s x now (Some (suc n)) = neither s _ _ refl (λ y k. cc)
finished_so scenario s x now (Some zero) = effect_so scenario s x now (op_at scenario x (thread_at s x).place)

-- ---- of a step

same_thread : (p : Pick) (x c from now : ℕ) → (bill_of c from now (Some p)).ran ≡ Some x → p.thread ≡ x
same_thread p x c from now ran = cc

nothing_done : (c from now : ℕ) (o : Option Pick) → (bill_of c from now o).done ≡ Nothing
nothing_done c from now None = refl
nothing_done c from now (Some p) = refl

nothing_so : (s : SchedulerState) (op : Op) (done : Done) → done ≡ Nothing → IsSo s op done
nothing_so s op done is = neither s op done (ap is_send is) (λ y k. clash y (sym is ∙ k))
  where
    clash : (y : ℕ) → Nothing ≡ ReceiveGot y → ⊥
    clash y same = cc

-- in the state before the step
so_before : (scenario : Scenario) (s : SchedulerState) (h : List Entry) (c : ℕ) (op : Op) (done : Done) → IsSo (tested_at scenario s h c).state op done → IsSo s op done
so_before scenario s h c op done so = record {
  sends = so.sends;
  takes = λ y k.
      let at = so.takes y k in
      (at.0, subst (λ (cs : List ChannelNow). 1 ≤ times_sent y (slice_index_or cs at.0 no_channel).messages) (tested_lists scenario s h c).channels at.1);
}

settled_so : (scenario : Scenario) (s : SchedulerState) (h : List Entry) (c now : ℕ) (running : Option Pick) (x : ℕ) → IsPlain scenario s → AgreesOnRunning s → (cpu_at s c).running ≡ running
    → (bill_of c (last_end h c) now running).ran ≡ Some x → IsSo s (op_at scenario x (thread_at s x).place) (settled scenario (tested_at scenario s h c).state now running).done
settled_so scenario s h c now None x plain kept is ran = absurd cc
settled_so scenario s h c now (Some p) x plain kept is ran =
    let t = (tested_at scenario s h c).state in
    let did = finish_op scenario t p.thread now (thread_at t p.thread).left in
    subst (λ z. IsSo s (op_at scenario z (thread_at s z).place) did.done) (same_thread p x c (last_end h c) now ran)
    (subst (λ place. IsSo s (op_at scenario p.thread place) did.done) (place_before scenario s h c p plain kept is)
    (so_before scenario s h c (op_at scenario p.thread (thread_at t p.thread).place) did.done (finished_so scenario t p.thread now (thread_at t p.thread).left)))

step_so : (scenario : Scenario) (s : SchedulerState) (h : List Entry) (c : ℕ) → IsPlain scenario s → AgreesOnRunning s → (x : ℕ) → (step scenario s h c).entry.ran ≡ Some x
    → IsSo s (op_at scenario x (thread_at s x).place) (step scenario s h c).entry.done
step_so scenario s h c plain kept =
    let now = due s h c in
    let running = (cpu_at s c).running in
    step_by scenario s h c (λ (out : Step). (x : ℕ) → out.entry.ran ≡ Some x → IsSo s (op_at scenario x (thread_at s x).place) out.entry.done)
    (λ o why x ran. nothing_so s (op_at scenario x (thread_at s x).place) _ (nothing_done c (last_end h c) now running))
    (λ early x ran. settled_so scenario s h c now running x plain kept refl ran)

-- of an entry of a legal history
pub said_so : (scenario : Scenario) (order : Order) (h : List Entry) (e : Entry) → IsScenario scenario → IsLegal scenario order (h ++ e ∷ []) → (x : ℕ) → e.ran ≡ Some x
    → IsSo (state_after scenario h) (op_at scenario x (thread_at (state_after scenario h) x).place) e.done
said_so scenario order h e valid legal =
    let last = legal_last scenario order h e legal in
    let ground = (sound scenario order valid h last.0).grounded in
    let s = state_after scenario h in
    subst (λ (d : Entry). (x : ℕ) → d.ran ≡ Some x → IsSo s (op_at scenario x (thread_at s x).place) d.done) (sym last.1.same)
    (step_so scenario s h e.cpu ground.plain ground.kept)
