-- What the threads as they stand have to do with the ready ones.
use Rattle.std.specs.Prelude.{◌≡◌, ℕ, ◌+◌, ◌^◌, ◌<◌, ◌≤◌, ◌⊎◌, List, length, map, slice_index_or, if◌then◌else◌, Option, Some, None}
use Rattle.aps_model.specs.Limits.{most_cpus, most_threads}
use Rattle.aps_model.specs.declared.merit.Contender.{Contender}
use Rattle.aps_model.specs.declared.state.Pick.{Pick}
use Rattle.aps_live.specs.declared.thread.LiveThread.{LiveThread}
use Rattle.aps_live.specs.declared.thread.Doing.TheVariants.{Ready, Running}
use Rattle.aps_live.specs.LiveState.{LiveState, live_cpu_at, no_live_thread}
use Rattle.aps_live.specs.LiveStep.{is_waking}

-- the place of a thread among the ready ones
abbrev pub seat_of : LiveThread → Option Contender
seat_of t = if is_waking t.doing then Some t.contender else None

abbrev pub row_of : List LiveThread → List (Option Contender)
row_of threads = map seat_of threads

-- the pick's thread is there, and runs on processor c
pub record Runs (threads : List LiveThread) (c : ℕ) (pick : Pick) : Type 0 where
  pub inside : pick.thread < length threads
  pub running : (slice_index_or threads pick.thread no_live_thread).doing ≡ Running c

-- this is one of the threads, as a contender, and is ready
pub record IsReadyAmong (threads : List LiveThread) (best : Contender) : Type 0 where
  pub inside : best.thread < length threads
  pub ready : (slice_index_or threads best.thread no_live_thread).doing ≡ Ready
  pub itself : (slice_index_or threads best.thread no_live_thread).contender ≡ best

-- each thread is in its place, and no two have one stamp: those that have woken have one below the next
pub record AreNumbered (threads : List LiveThread) (stamps : ℕ) : Type 0 where
  pub numbered : (x : ℕ) → x < length threads → (slice_index_or threads x no_live_thread).contender.thread ≡ x
  pub stamped : (x : ℕ) → x < length threads
      → ((slice_index_or threads x no_live_thread).contender.stamp < stamps)
      ⊎ ((slice_index_or threads x no_live_thread).contender.stamp ≡ 2 ^ 63 + x)
  pub distinct : (x y : ℕ) → x < length threads → y < length threads
      → (slice_index_or threads x no_live_thread).contender.stamp ≡ (slice_index_or threads y no_live_thread).contender.stamp → x ≡ y

-- what the threads and the processors as they stand have to do with the ready ones
pub record IsMachine (s : LiveState) (seats : List (Option Contender)) : Type 0 where
  pub row : seats ≡ row_of s.threads
  pub few : length s.threads ≤ most_threads
  pub few_cpus : length s.cpus ≤ most_cpus
  pub numbered : AreNumbered s.threads s.stamps
  pub runs : (c : ℕ) (pick : Pick) → live_cpu_at s c ≡ Some pick → Runs s.threads c pick
