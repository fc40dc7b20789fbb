use Rattle.std.specs.Prelude.{◌≡◌, ℕ, ◌<◌, ◌≤◌, length}
use Rattle.laws_runs.specs.Waits.{IsWaiting, state_at}
use Rattle.aps_model.specs.declared.program.Op.{Op}
use Rattle.aps_model.specs.declared.program.Op.TheVariants.{Receive, Send}
use Rattle.aps_model.specs.declared.state.State.TheVariants.{Running}
use Rattle.aps_model.specs.Scenario.{Scenario, op_at}
use Rattle.aps_model.specs.SchedulerState.{SchedulerState, channel_at, thread_at}

-- the greatest place of a thread in its program, which has at most 256 operations: past the last one
abbrev pub last_place : ℕ
last_place = 256

-- the stamps that all steps of a run can give: 1,024 at the start, and at each of 4,000,000 entries one to each of 1,024 threads
-- that wakes and a few more
abbrev pub stamps_before : ℕ
stamps_before = 6000000000

-- the same, with those that one more step gives
abbrev pub stamps_within : ℕ
stamps_within = 7000000000

-- the changes of a run: two for each of 1,024 commands, and one for each of 31 partitions that can have a critical budget
abbrev pub changes_of_a_run : ℕ
changes_of_a_run = 2079

-- the numbers that one wake more raises have room
pub record HasRoomToWake (place stamp : ℕ) (s : SchedulerState) : Type 0 where
  pub places : (x : ℕ) → (thread_at s x).place ≤ place
  pub stamps : s.stamps ≤ stamp

-- the numbers that an operation of the thread raises have room; the thread runs, and each thread waits where its state says,
-- so that this one waits nowhere
pub record HasRoomForOperation (s : SchedulerState) (x : ℕ) : Type 0 where
  pub numbers : HasRoomToWake last_place stamps_within s
  pub cpu : ℕ
  pub runs : state_at s x ≡ Running cpu
  pub waiting : IsWaiting (state_at s) (channel_at s) s.triples

-- the operation names one of so many channels, if it names a channel
pub record NamesIn (channels : ℕ) (op : Op) : Type 0 where
  pub sends : (c : ℕ) → op ≡ Send c → c < channels
  pub receives : (c : ℕ) → op ≡ Receive c → c < channels

-- the thread can end its operation
pub record CanFinish (scenario : Scenario) (s : SchedulerState) (x : ℕ) : Type 0 where
  pub room : HasRoomForOperation s x
  pub named : NamesIn (length s.channels) (op_at scenario x (thread_at s x).place)
