-- What is seen of the threads that may call, before the next step.
use Rattle.std.specs.Prelude.{◌≡◌, ℕ, ◌<◌, List, length, slice_index_or}
use Rattle.aps_model.specs.declared.entry.Entry.{Entry}
use Rattle.aps_model.specs.declared.state.State.{State}
use Rattle.aps_model.specs.declared.state.State.TheVariants.{Running, Sending, Replying}
use Rattle.aps_model.specs.Scenario.{Scenario}
use Rattle.aps_model.specs.SchedulerState.{SchedulerState, thread_at}
use Rattle.laws_runs.specs.ThreadFits.{IsThreadFit}
use Rattle.view_latency.specs.declared.news.News.{News}
use Rattle.view_latency.specs.declared.news.News.TheVariants.{Nothing}
use Rattle.view_latency.specs.declared.seen.Seen.{Seen}
use Rattle.view_latency.specs.declared.seen.Seen.TheVariants.{Runs, Sends, Waits, Other}
use Rattle.view_latency.specs.Callers.{caller_at}
use Rattle.view_latency.specs.News.{news_of_own, news_of_server, news_of_taking}

-- of a thread that is at this place of its program and in this state
abbrev pub seen_in : ℕ → State → Seen
seen_in place (Running c) = Runs place
seen_in place (Sending c) = Sends
seen_in place (Replying server) = Waits server
seen_in place state = Other

-- of thread x
abbrev pub seen_of : SchedulerState → ℕ → Seen
seen_of s x = seen_in (thread_at s x).place (thread_at s x).state

-- what an entry tells of the call of thread x, of which that was seen before
abbrev pub news_by : Scenario → ℕ → Seen → Entry → News
news_by scenario x (Runs place) e = news_of_own scenario x place e
news_by scenario x Sends e = news_of_taking x e.done
news_by scenario x (Waits server) e = news_of_server server e
news_by scenario x Other e = Nothing

-- what was seen of the caller at this place of their list
abbrev pub seen_at : List Seen → ℕ → Seen
seen_at seen k = slice_index_or seen k Other

-- this is seen of each of them
pub record AreSeen (s : SchedulerState) (callers : List ℕ) (seen : List Seen) : Type 0 where
  pub count : length seen ≡ length callers
  pub each : (k : ℕ) → k < length callers → seen_at seen k ≡ seen_of s (caller_at callers k)

-- each thread of the scenario stands as its program has it
abbrev pub HasFits : Scenario → SchedulerState → Type 0
HasFits scenario s = (x : ℕ) → x < length scenario.threads → IsThreadFit scenario (length s.rows) x (thread_at s x)
