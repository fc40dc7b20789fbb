-- Who waits at each channel and who serves whom, as contracts see it.
use Rattle.std.specs.Prelude.{◌≡◌, ◌⊎◌, ℕ, ◌≤◌, List, [], ◌∷◌, ◌++◌, Option, Some, None, slice_index_or, slice_set}
use Rattle.laws_runs.specs.Waits.{times, times_paired, times_sent}
use Rattle.aps_model.specs.Inherit.{client_of, without_server}
use Rattle.aps_model.specs.Messages.{without_sender}
use Rattle.aps_model.specs.SchedulerState.{ChannelNow, Message, Triple, no_channel}
use Rattle.aps_channel.specs.Waiting.{first_sender}
use Rattle.aps_channel.specs.declared.outcome.Sent.{Sent}
use Rattle.aps_channel.specs.declared.outcome.Sent.TheVariants.{Delivered, Blocked}
use Rattle.aps_channel.specs.declared.outcome.Received.{Received}
use Rattle.aps_channel.specs.declared.outcome.Received.TheVariants as took
use Rattle.aps_channel.specs.declared.outcome.Replied.{Replied}
use Rattle.aps_channel.specs.declared.outcome.Replied.TheVariants.{Freed, NoClient}

-- who waits at each channel in order of arrival, the triples with the newest first, and how many threads there are
pub record Channels : Type 0 where
  pub channels : List ChannelNow
  pub triples : List Triple
  pub threads : ℕ

abbrev pub channel_in_place : Channels → ℕ → ChannelNow
channel_in_place s c = slice_index_or s.channels c no_channel

abbrev pub channels_with : Channels → ℕ → ChannelNow → Channels
channels_with s c channel = record s { channels = slice_set s.channels c channel }

abbrev pub channels_with_triple : Channels → ℕ → ℕ → ℕ → Channels
channels_with_triple s server client channel =
    record s { triples = (record { server = server; client = client; channel = channel }) ∷ s.triples }

-- the thread waits nowhere: no message of it waits, it waits for none, and for no reply
pub record WaitsNowhere (s : Channels) (x : ℕ) : Type 0 where
  pub messages : (d : ℕ) → times_sent x (channel_in_place s d).messages ≡ 0
  pub receivers : (d : ℕ) → times x (channel_in_place s d).receivers ≡ 0
  pub replies : (z : ℕ) → times_paired z x s.triples ≡ 0

-- what each state keeps: no channel has both a message and a receiver that wait, and who waits for a message holds no client
pub record IsCalm (s : Channels) : Type 0 where
  pub either : (d : ℕ) → ((channel_in_place s d).messages ≡ []) ⊎ ((channel_in_place s d).receivers ≡ [])
  pub unheld : (d x : ℕ) → 1 ≤ times x (channel_in_place s d).receivers → client_of s.triples x ≡ None

-- what a call leaves, and what it answers
pub record AfterCall (A : Type 0) : Type 0 where
  pub state : Channels
  pub answer : A

-- a message of x with this priority comes to a channel with these receivers
abbrev pub after_send : Channels → ℕ → ℕ → ℕ → List ℕ → AfterCall Sent
after_send s c x priority [] = record {
  state = channels_with s c
      (record (channel_in_place s c) { messages = (channel_in_place s c).messages ++ (record { sender = x; priority = priority }) ∷ [] });
  answer = Blocked;
}
after_send s c x priority (r ∷ rest) = record {
  state = channels_with_triple (channels_with s c (record (channel_in_place s c) { receivers = rest })) r x c;
  answer = Delivered r;
}

-- a receive by a thread that holds nobody, where this thread sent the message that is received next
abbrev pub received_from : Channels → ℕ → ℕ → Option ℕ → AfterCall Received
received_from s c x None = record {
  state = channels_with s c (record (channel_in_place s c) { receivers = (channel_in_place s c).receivers ++ x ∷ [] });
  answer = took.Blocked;
}
received_from s c x (Some client) = record {
  state = channels_with_triple
      (channels_with s c (record (channel_in_place s c) { messages = without_sender client (channel_in_place s c).messages })) x client c;
  answer = took.Got client;
}

-- a receive by a thread that holds this client
abbrev pub after_receive : Channels → ℕ → ℕ → Option ℕ → AfterCall Received
after_receive s c x (Some client) = record { state = s; answer = took.Holding client }
after_receive s c x None = received_from s c x (first_sender (channel_in_place s c).messages)

-- a reply by a thread that holds this client
abbrev pub after_reply : Channels → ℕ → Option ℕ → AfterCall Replied
after_reply s x None = record { state = s; answer = NoClient }
after_reply s x (Some client) = record { state = record s { triples = without_server s.triples x }; answer = Freed client }
