-- How waiting messages are queued: by the keys of their records, in order of arrival, and again for each level.
use Rattle.std.specs.Prelude.{◌≡◌, ℕ, ◌+◌, ◌-◌, ◌*◌, ◌<◌, ◌≤◌, Bool, nat_eq, List, length, map, Option, Some, None, is_some, slice_index_or}
use Rattle.std.specs.List.{filter}
use Rattle.slab.specs.Slab.{Slab, get}
use Rattle.aps_model.specs.Limits.{greatest_priority}
use Rattle.aps_model.specs.SchedulerState.{Message}
use Rattle.aps_levels.specs.declared.levels.Levels.{Levels}
use Rattle.aps_levels.specs.Levels.{has_level, level_count}
use Rattle.aps_channel.specs.declared.waiting.MessageRecord.{MessageRecord}
use Rattle.aps_channel.specs.Lines.{Lines, first_of, queue_line_at}

-- the records of messages, by key
abbrev pub Records : Type 0
Records = Slab MessageRecord

-- what a record says, if there is one
abbrev pub message_in : Option MessageRecord → Message
message_in None = record { sender = 0; priority = 0 }
message_in (Some r) = record { sender = r.sender; priority = r.priority }

-- the message that has this key
abbrev pub message_of : Records → ℕ → Message
message_of records key = message_in (get records key)

abbrev pub sender_at : Records → ℕ → ℕ
sender_at records key = (message_of records key).sender

abbrev pub priority_at : Records → ℕ → ℕ
priority_at records key = (message_of records key).priority

-- of two priorities the greater has the lower level
abbrev pub level_of_priority : ℕ → ℕ
level_of_priority priority = greatest_priority - priority

abbrev pub messages_of : Records → List (List ℕ) → List (List Message)
messages_of records lines = map (map (message_of records)) lines

-- the message of the key waits at this level
abbrev pub is_level : Records → ℕ → ℕ → Bool
is_level records level key = nat_eq (level_of_priority (priority_at records key)) level

-- the line of a level of a channel
abbrev pub line_of_level : ℕ → ℕ → ℕ
line_of_level c level = level_count * c + level

-- each level of a channel has the channel's keys of that level, in order of arrival, and is in use where there are some
pub record AreQueues (arrivals levels : Lines) (in_use : List Levels) (records : Records) : Type 0 where
  pub channels : length levels.lines ≡ level_count * length arrivals.lines
  pub keys : levels.numbers ≡ arrivals.numbers
  pub sets : length in_use ≡ length arrivals.lines
  pub small : (k : ℕ) → priority_at records k ≤ greatest_priority
  pub queued : (c level : ℕ) → c < length arrivals.lines → level < level_count
      → queue_line_at levels.lines (line_of_level c level) ≡ filter (is_level records level) (queue_line_at arrivals.lines c)
  pub used : (c level : ℕ) (d : Levels) → c < length arrivals.lines → level < level_count
      → has_level (slice_index_or in_use c d) level ≡ is_some (first_of (queue_line_at levels.lines (line_of_level c level)))
