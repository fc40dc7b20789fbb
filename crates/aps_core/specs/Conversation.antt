-- Who waits at each channel and who serves whom in a scheduler state, and what a call of a thread makes of it.
use Rattle.std.specs.Prelude.{ℕ, length}
use Rattle.aps_model.specs.Inherit.{client_of, facts_of}
use Rattle.aps_model.specs.SchedulerState.{SchedulerState, channel_at}
use Rattle.aps_channel.specs.Channels.{AfterCall, Channels, after_receive, after_reply, after_send}
use Rattle.aps_channel.specs.declared.outcome.Received.{Received}
use Rattle.aps_channel.specs.declared.outcome.Replied.{Replied}
use Rattle.aps_channel.specs.declared.outcome.Sent.{Sent}

abbrev pub channels_of_state : SchedulerState → Channels
channels_of_state s = record { channels = s.channels; triples = s.triples; threads = length s.threads }

abbrev pub with_channels : SchedulerState → Channels → SchedulerState
with_channels s k = record s { channels = k.channels; triples = k.triples }

-- a message of the thread, with the priority that it inherits, comes to the channel
abbrev pub sent_in : SchedulerState → ℕ → ℕ → AfterCall Sent
sent_in s x c = after_send (channels_of_state s) c x (facts_of s x).priority (channel_at s c).receivers

-- the thread receives at the channel
abbrev pub received_in : SchedulerState → ℕ → ℕ → AfterCall Received
received_in s x c = after_receive (channels_of_state s) c x (client_of s.triples x)

-- the thread replies
abbrev pub replied_in : SchedulerState → ℕ → AfterCall Replied
replied_in s x = after_reply (channels_of_state s) x (client_of s.triples x)
