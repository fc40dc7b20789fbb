-- What ties threads to each other: messages that wait, and who serves whom.
use Rattle.std.specs.Prelude.{ℕ, ◌++◌, List, [], ◌∷◌, map, slice_index_or, slice_set, nat_eq, if◌then◌else◌, Option, Some, None}
use Rattle.aps_model.specs.declared.entry.Done.{Done}
use Rattle.aps_model.specs.declared.entry.Done.TheVariants.{SendBlocked, SendTo, ReceiveGot, ReplyFreed, Exit}
use Rattle.aps_model.specs.declared.program.Op.{Op}
use Rattle.aps_model.specs.declared.program.Op.TheVariants.{Send, Receive}
use Rattle.aps_model.specs.Inherit.{facts_of, without_server}
use Rattle.aps_model.specs.Messages.{without_sender}
use Rattle.aps_model.specs.Scenario.{Scenario, op_at}
use Rattle.aps_model.specs.SchedulerState.{ChannelNow, Message, SchedulerState, Triple, thread_at}

-- the messages at each channel, in order of arrival, and the triples, the newest first
pub record Ties : Type 0 where
  pub messages : List (List Message)
  pub triples : List Triple

abbrev pub ties_of : SchedulerState → Ties
ties_of s = record { messages = map (λ (c : ChannelNow). c.messages) s.channels; triples = s.triples }

abbrev pub tied_messages_at : Ties → ℕ → List Message
tied_messages_at ties c = slice_index_or ties.messages c []

abbrev pub ties_with_messages : Ties → ℕ → List Message → Ties
ties_with_messages ties c messages = record ties { messages = slice_set ties.messages c messages }

abbrev pub ties_with_triple : Ties → ℕ → ℕ → ℕ → Ties
ties_with_triple ties server client channel =
    record ties { triples = (record { server = server; client = client; channel = channel }) ∷ ties.triples }

abbrev pub without_triple : Ties → ℕ → Ties
without_triple ties server = record ties { triples = without_server ties.triples server }

-- the server of the newest of these triples whose message came by the channel
abbrev pub newest_server : List Triple → ℕ → Option ℕ
newest_server [] c = None
newest_server (t ∷ older) c = if nat_eq t.channel c then Some t.server else newest_server older c

-- ---- with one operation more

-- the channel that an operation names, or 0
abbrev pub channel_of_operation : Op → ℕ
channel_of_operation (Send c) = c
channel_of_operation (Receive c) = c
channel_of_operation op = 0

-- thread x, which counts with this priority, did this at channel c, if it was at a channel
abbrev pub after_done : Ties → ℕ → ℕ → ℕ → Done → Ties
after_done ties x c priority SendBlocked =
    ties_with_messages ties c (tied_messages_at ties c ++ (record { sender = x; priority = priority }) ∷ [])
after_done ties x c priority (SendTo y) = ties_with_triple ties y x c
after_done ties x c priority (ReceiveGot y) =
    ties_with_triple (ties_with_messages ties c (without_sender y (tied_messages_at ties c))) x y c
after_done ties x c priority (ReplyFreed y) = without_triple ties x
after_done ties x c priority Exit = without_triple ties x
after_done ties x c priority done = ties

-- what the thread that ran, if one did, has done: its operation is the one at its place in this state
abbrev pub after_ran : Scenario → SchedulerState → Ties → Option ℕ → Done → Ties
after_ran scenario s ties None done = ties
after_ran scenario s ties (Some x) done =
    after_done ties x (channel_of_operation (op_at scenario x (thread_at s x).place)) (facts_of s x).priority done
