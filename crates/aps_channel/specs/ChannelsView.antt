-- The channels, by the messages, the receivers and the triples that make them up.
use Rattle.std.specs.Prelude.{◌≡◌, ◌⊎◌, ℕ, ◌≤◌, List, [], ◌∷◌, length, None}
use Rattle.laws_runs.specs.Waits.{times}
use Rattle.aps_model.specs.Inherit.{client_of}
use Rattle.aps_model.specs.Limits.{most_threads}
use Rattle.aps_model.specs.SchedulerState.{ChannelNow, Message}
use Rattle.aps_channel.specs.Channels.{Channels, IsCalm}
use Rattle.aps_channel.specs.Lines.{Lines, queue_line_at}
use Rattle.aps_channel.specs.Serving.{Serving}
use Rattle.aps_channel.specs.Waiting.{Waiting, messages_at}

-- each channel's messages and receivers, beside each other
abbrev pub channels_joined : List (List Message) → List (List ℕ) → List ChannelNow
channels_joined [] lines = []
channels_joined (ms ∷ messages) [] = []
channels_joined (ms ∷ messages) (line ∷ lines) = (record { messages = ms; receivers = line }) ∷ channels_joined messages lines

abbrev pub channels_of : Waiting → Lines → Serving → Channels
channels_of w r s = record { channels = channels_joined w.messages r.lines; triples = s.triples; threads = w.threads }

-- there are as many lines as channels, of as many threads, and all is calm
pub record AreChannels (w : Waiting) (r : Lines) (s : Serving) : Type 0 where
  pub size : length w.messages ≡ length r.lines
  pub threads : r.numbers ≡ w.threads
  pub servers : s.threads ≡ w.threads
  pub few : w.threads ≤ most_threads
  pub calm : IsCalm (channels_of w r s)
