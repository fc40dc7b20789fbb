-- What an operation that is over does to what ties threads.
use Rattle.std.proofs.Common.{◌≡◌, ℕ, zero, suc, ◌++◌, List, [], ◌∷◌, refl, sym, ◌∙◌, ap, Bool, true, false, cond, nat_eq, Option, Some, None, slice_index_or, slice_set, map}
use Rattle.std.proofs.lemmas.List.{map-set, set-get_or}
use Rattle.aps_model.specs.declared.entry.Done.{Done}
use Rattle.aps_model.specs.declared.program.Op.{Op}
use Rattle.aps_model.specs.declared.program.Op.TheVariants.{Run, Forever, Sleep, Yield, Send, Receive, Reply, Join, Priority, CriticalOn, CriticalOff, Repeat, Exit}
use Rattle.aps_model.specs.declared.state.Pick.{Pick}
use Rattle.aps_model.specs.declared.state.State.TheVariants.{Replying}
use Rattle.aps_model.specs.Effect.{effect, joined}
use Rattle.aps_model.specs.Inherit.{client_of, facts_of, without_server}
use Rattle.aps_model.specs.Messages.{first_message, received, received_message, replied, sent, without_sender}
use Rattle.aps_model.specs.Partition.{partition_named}
use Rattle.aps_model.specs.Scenario.{Scenario, op_at}
use Rattle.aps_model.specs.SchedulerState.{ChannelNow, Message, SchedulerState, Triple, channel_at, no_channel, thread_at, with_channel, with_state, with_triple}
use Rattle.aps_model.specs.Step.{finish_op, settled}
use Rattle.view_explain.specs.Ties.{Ties, after_done, after_ran, channel_of_operation, ties_of}
use Rattle.view_explain.proofs.Lists.{entered_lists, given_lists, on_lists}

-- ---- one channel

read : (cs : List ChannelNow) (d : ℕ) → slice_index_or (map (λ (c : ChannelNow). c.messages) cs) d [] ≡ (slice_index_or cs d no_channel).messages
read [] d = refl
read (c ∷ cs) zero = refl
read (c ∷ cs) (suc d) = read cs d

-- other messages wait at the channel
other_messages : (cs : List ChannelNow) (d : ℕ) (new : ChannelNow) → map (λ (c : ChannelNow). c.messages) (slice_set cs d new) ≡ slice_set (map (λ (c : ChannelNow). c.messages) cs) d new.messages
other_messages cs d new = map-set (λ (c : ChannelNow). c.messages) cs d new

-- the same do
same_messages : (cs : List ChannelNow) (d : ℕ) (new : ChannelNow) → new.messages ≡ (slice_index_or cs d no_channel).messages → map (λ (c : ChannelNow). c.messages) (slice_set cs d new) ≡ map (λ (c : ChannelNow). c.messages) cs
same_messages cs d new same =
    let ms : List (List Message) = map (λ (c : ChannelNow). c.messages) cs in
    other_messages cs d new ∙ ap (slice_set ms d) (same ∙ sym (read cs d)) ∙ set-get_or ms d []

-- ---- the operation

-- thread x says this of an operation at this channel, and leaves these ties
abbrev Says : SchedulerState → ℕ → ℕ → Done → SchedulerState → Type 0
Says s x c done t = ties_of t ≡ after_done (ties_of s) x c (facts_of s x).priority done

sent_says : (scenario : Scenario) (s : SchedulerState) (x d now : ℕ) (rs : List ℕ) → Says s x d (sent scenario s x d now rs).done (sent scenario s x d now rs).state
sent_says scenario s x d now [] =
    let m : Message = record { sender = x; priority = (facts_of s x).priority } in
    let ms : List (List Message) = map (λ (c : ChannelNow). c.messages) s.channels in
    let made : List (List Message) → Ties = λ l. record { messages = l; triples = s.triples } in
    ap made (other_messages s.channels d (record (channel_at s d) { messages = (channel_at s d).messages ++ m ∷ [] })
    ∙ ap (λ (l : List Message). slice_set ms d (l ++ m ∷ [])) (sym (read s.channels d)))
sent_says scenario s x d now (r ∷ rest) =
    let mid = with_state (with_triple (with_channel s d (record (channel_at s d) { receivers = rest })) r x d) x (Replying r) in
    let t : Triple = record { server = r; client = x; channel = d } in
    let made : List (List Message) → Ties = λ l. record { messages = l; triples = t ∷ s.triples } in
    on_lists scenario mid r now ∙ ap made (same_messages s.channels d (record (channel_at s d) { receivers = rest }) refl)

message_says : (s : SchedulerState) (x d : ℕ) (o : Option Message) → Says s x d (received_message s x d o).done (received_message s x d o).state
message_says s x d None =
    let made : List (List Message) → Ties = λ l. record { messages = l; triples = s.triples } in
    ap made (same_messages s.channels d (record (channel_at s d) { receivers = (channel_at s d).receivers ++ x ∷ [] }) refl)
message_says s x d (Some m) =
    let ms : List (List Message) = map (λ (c : ChannelNow). c.messages) s.channels in
    let t : Triple = record { server = x; client = m.sender; channel = d } in
    let made : List (List Message) → Ties = λ l. record { messages = l; triples = t ∷ s.triples } in
    ap made (other_messages s.channels d (record (channel_at s d) { messages = without_sender m.sender (channel_at s d).messages })
    ∙ ap (λ (l : List Message). slice_set ms d (without_sender m.sender l)) (sym (read s.channels d)))

received_says : (s : SchedulerState) (x d : ℕ) (o : Option ℕ) → Says s x d (received s x d o).done (received s x d o).state
received_says s x d (Some y) = refl
received_says s x d None = message_says s x d (first_message (channel_at s d).messages)

replied_says : (scenario : Scenario) (s : SchedulerState) (x c now : ℕ) (o : Option ℕ) → Says s x c (replied scenario s x now o).done (replied scenario s x now o).state
replied_says scenario s x c now None = refl
replied_says scenario s x c now (Some y) = on_lists scenario (record s { triples = without_server s.triples x }) y now

joined_says : (s : SchedulerState) (x c : ℕ) (o : Option ℕ) → Says s x c (joined s x o).done (joined s x o).state
joined_says s x c None = refl
joined_says s x c (Some p) = refl

-- who serves nobody has no triple to lose
without_none : (ts : List Triple) (x : ℕ) → client_of ts x ≡ None → without_server ts x ≡ ts
without_none [] x none = refl
without_none (t ∷ ts) x none = by_test (nat_eq t.server x) none (without_none ts x)
  where
    by_test : (is : Bool) → cond is (Some t.client) (client_of ts x) ≡ None → (client_of ts x ≡ None → without_server ts x ≡ ts) → cond is ts (t ∷ without_server ts x) ≡ t ∷ ts
    by_test true e rest = absurd cc
    by_test false e rest = ap (λ l. t ∷ l) (rest e)

exit_says : (scenario : Scenario) (s : SchedulerState) (x now : ℕ) (o : Option ℕ) → client_of s.triples x ≡ o
    → ties_of (replied scenario s x now o).state ≡ record (ties_of s) { triples = without_server s.triples x }
exit_says scenario s x now None is =
    let made : List Triple → Ties = λ l. record { messages = map (λ (c : ChannelNow). c.messages) s.channels; triples = l } in
    sym (ap made (without_none s.triples x is))
exit_says scenario s x now (Some y) is = on_lists scenario (record s { triples = without_server s.triples x }) y now

effect_says : (scenario : Scenario) (s : SchedulerState) (x now : ℕ) (op : Op) → Says s x (channel_of_operation op) (effect scenario s x now op).done (effect scenario s x now op).state
effect_says scenario s x now (Run ns) = refl
effect_says scenario s x now Forever = refl
effect_says scenario s x now (Sleep ns) = refl
effect_says scenario s x now Yield = refl
effect_says scenario s x now (Send d) = sent_says scenario s x d now (channel_at s d).receivers
effect_says scenario s x now (Receive d) = received_says s x d (client_of s.triples x)
effect_says scenario s x now Reply = replied_says scenario s x 0 now (client_of s.triples x)
effect_says scenario s x now (Join name) = joined_says s x 0 (partition_named s.rows name)
effect_says scenario s x now (Priority n) = refl
effect_says scenario s x now CriticalOn = refl
effect_says scenario s x now CriticalOff = refl
effect_says scenario s x now Repeat = refl
effect_says scenario s x now Exit = exit_says scenario s x now (client_of s.triples x) refl

finished_says : (scenario : Scenario) (s : SchedulerState) (x now : ℕ) (left : Option ℕ)
    → Says s x (channel_of_operation (op_at scenario x (thread_at s x).place)) (finish_op scenario s x now left).done (finish_op scenario s x now left).state
finished_says scenario s x now None = refl
finished_says scenario s x now (Some (suc n)) = refl
finished_says scenario s x now (Some zero) =
    let op = op_at scenario x (thread_at s x).place in
    let did = (effect scenario s x now op).state in
    entered_lists scenario did x now op (thread_at did x).state ∙ effect_says scenario s x now op

-- whoever ran
abbrev pub thread_in : Option Pick → Option ℕ
thread_in None = None
thread_in (Some pick) = Some pick.thread

-- what the way back leaves, by what it says
pub settled_says : (scenario : Scenario) (s : SchedulerState) (now : ℕ) (running : Option Pick)
    → ties_of (settled scenario s now running).state ≡ after_ran scenario s (ties_of s) (thread_in running) (settled scenario s now running).done
settled_says scenario s now None = refl
settled_says scenario s now (Some p) =
    let did = (finish_op scenario s p.thread now (thread_at s p.thread).left).state in
    given_lists scenario did p.thread (thread_at did p.thread).state ∙ finished_says scenario s p.thread now (thread_at s p.thread).left
