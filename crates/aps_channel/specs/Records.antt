-- How the records of waiting messages are kept: in a slab, each under a key that stands in the line of its channel.
use Rattle.std.specs.Prelude.{◌≡◌, ℕ, ◌<◌, ◌≤◌, Bool, true, List, is_some}
use Rattle.slab.specs.Slab.{get}
use Rattle.laws_runs.specs.Waits.{times}
use Rattle.aps_levels.specs.declared.levels.Levels.{Levels}
use Rattle.aps_channel.specs.Lines.{Lines, queue_line_at}
use Rattle.aps_channel.specs.Queues.{AreQueues, Records, sender_at}

-- a message has this key
abbrev pub is_kept : Records → ℕ → Bool
is_kept records key = is_some (get records key)

-- the key stands in the line of a channel
pub record Stands (arrivals : Lines) (key : ℕ) : Type 0 where
  pub channel : ℕ
  pub there : 1 ≤ times key (queue_line_at arrivals.lines channel)

-- the keys that stand in lines are those of records, each of another thread; there is room for all threads, and each key
-- that the slab can give may stand in a line
pub record AreRecords (arrivals : Lines) (records : Records) (threads : ℕ) : Type 0 where
  pub room : threads ≤ records.capacity
  pub keys : records.capacity ≤ arrivals.numbers
  pub few : arrivals.numbers < 65536
  pub senders : (k : ℕ) → is_kept records k ≡ true → sender_at records k < threads
  pub apart : (j k : ℕ) → is_kept records j ≡ true → is_kept records k ≡ true → sender_at records j ≡ sender_at records k → j ≡ k
  pub stands : (k : ℕ) → is_kept records k ≡ true → Stands arrivals k
  pub kept : (c k : ℕ) → 1 ≤ times k (queue_line_at arrivals.lines c) → is_kept records k ≡ true

-- the messages as they are kept
pub record AreMessagesKept (arrivals levels : Lines) (in_use : List Levels) (rs : Records) (threads : ℕ) : Type 0 where
  pub queues : AreQueues arrivals levels in_use rs
  pub records : AreRecords arrivals rs threads
