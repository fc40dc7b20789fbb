-- What an entry tells of a thread's call.
use Rattle.std.specs.Prelude.{ℕ, Bool, true, false, ◌&&◌, nat_eq, if◌then◌else◌}
use Rattle.aps_model.specs.declared.entry.Done.{Done}
use Rattle.aps_model.specs.declared.entry.Done.TheVariants.{SendBlocked, SendTo, ReceiveGot, ReplyFreed, Exit}
use Rattle.aps_model.specs.declared.entry.Entry.{Entry}
use Rattle.aps_model.specs.declared.program.Op.{Op}
use Rattle.aps_model.specs.declared.program.Op.TheVariants.{Send}
use Rattle.aps_model.specs.declared.state.State.{State}
use Rattle.aps_model.specs.declared.state.State.TheVariants.{Running, Sending, Replying}
use Rattle.aps_model.specs.Report.{length_of}
use Rattle.aps_model.specs.Scenario.{Scenario, op_at}
use Rattle.aps_model.specs.SchedulerState.{SchedulerState, thread_at}
use Rattle.aps_model.specs.Usage.{names}
use Rattle.view_latency.specs.declared.news.News.{News}
use Rattle.view_latency.specs.declared.news.News.TheVariants.{Nothing, Sent, Taken, Served, Answered}

-- ---- of a thread that runs

-- a send ended, whether a server took the message at once or not
abbrev pub is_send : Done → Bool
is_send SendBlocked = true
is_send (SendTo server) = true
is_send done = false

abbrev pub sent_by : Op → News
sent_by (Send c) = Sent c
sent_by op = Nothing

-- the entry is the thread's own, and the operation at its place, a send, ended with it
abbrev pub news_of_own : Scenario → ℕ → ℕ → Entry → News
news_of_own scenario x place e = if names e.ran x && is_send e.done then sent_by (op_at scenario x place) else Nothing

-- ---- of a thread whose message waits at a channel

abbrev pub taken_if : Bool → News
taken_if is_taken = if is_taken then Taken else Nothing

abbrev pub news_of_taking : ℕ → Done → News
news_of_taking x (ReceiveGot sender) = taken_if (nat_eq sender x)
news_of_taking x done = Nothing

-- ---- of a thread that waits for a server's reply: the server holds it

-- the server ran for so long; with its reply or its exit the thread is free
abbrev pub served : Done → ℕ → News
served (ReplyFreed client) ns = Answered ns
served Exit ns = Answered ns
served done ns = Served ns

abbrev pub news_of_server : ℕ → Entry → News
news_of_server server e = if names e.ran server then served e.done (length_of e) else Nothing

-- ---- of any thread

abbrev pub news_in : Scenario → ℕ → ℕ → State → Entry → News
news_in scenario x place (Running c) e = news_of_own scenario x place e
news_in scenario x place (Sending c) e = news_of_taking x e.done
news_in scenario x place (Replying server) e = news_of_server server e
news_in scenario x place state e = Nothing

-- what an entry tells of the call of thread x, by the state that stood before
abbrev pub news_of : Scenario → SchedulerState → ℕ → Entry → News
news_of scenario s x e = news_in scenario x (thread_at s x).place (thread_at s x).state e

-- how long the server ran, by the news
abbrev pub time_of : News → ℕ
time_of (Served ns) = ns
time_of (Answered ns) = ns
time_of news = 0
