-- The messages that wait, as contracts see them.
use Rattle.std.specs.Prelude.{ℕ, List, [], ◌∷◌, Option, Some, None, slice_index_or, slice_set}
use Rattle.std.specs.Option.{option_map}
use Rattle.laws_runs.specs.Waits.{times_sent}
use Rattle.aps_model.specs.Messages.{first_message, without_sender}
use Rattle.aps_model.specs.SchedulerState.{Message}

-- the messages at each channel in order of arrival, and how many threads there are
pub record Waiting : Type 0 where
  pub messages : List (List Message)
  pub threads : ℕ

abbrev pub messages_at : Waiting → ℕ → List Message
messages_at s c = slice_index_or s.messages c []

abbrev pub with_messages : Waiting → ℕ → List Message → Waiting
with_messages s c ms = record s { messages = slice_set s.messages c ms }

-- who sent the message that is received next
abbrev pub first_sender : List Message → Option ℕ
first_sender ms = option_map (λ (m : Message). m.sender) (first_message ms)

-- without the message of this sender, if one is given
abbrev pub without_of : Option ℕ → List Message → List Message
without_of None ms = ms
without_of (Some x) ms = without_sender x ms
