-- For whom servers run.
use Rattle.std.specs.Prelude.{ℕ, ◌+◌, List, [], ◌&&◌, if◌then◌else◌, is_none, Option, Some, None}
use Rattle.std.specs.List.{sum_by}
use Rattle.aps_model.specs.declared.entry.Entry.{Entry}
use Rattle.aps_model.specs.After.{state_after}
use Rattle.aps_model.specs.Inherit.{client_of}
use Rattle.aps_model.specs.Report.{length_of}
use Rattle.aps_model.specs.Scenario.{Scenario}
use Rattle.aps_model.specs.Usage.{names}
use Rattle.view_latency.specs.declared.call.Asked.{Asked}
use Rattle.view_latency.specs.declared.call.Call.{Call}
use Rattle.view_latency.specs.Calls.{Calls}
use Rattle.view_latency.specs.News.{news_of, time_of}
use Rattle.laws_bounds.specs.FreeTime.{sum_along}

-- ---- one entry; these are the entries before it

-- for how long the entry runs the server on the call of thread x, by what it tells of that call
abbrev pub served_by : Scenario → ℕ → ℕ → List Entry → Entry → ℕ
served_by scenario server x before e =
    if names e.ran server then time_of (news_of scenario (state_after scenario before) x e) else 0

-- for how long it runs the server while that holds no client
abbrev pub own_by : Scenario → ℕ → List Entry → Entry → ℕ
own_by scenario server before e =
    if names e.ran server && is_none (client_of (state_after scenario before).triples server) then length_of e else 0

-- for how long it runs the server
abbrev pub ran_by : ℕ → Entry → ℕ
ran_by server e = if names e.ran server then length_of e else 0

-- ---- all entries

abbrev pub served_time : Scenario → List Entry → ℕ → ℕ → ℕ
served_time scenario h server x = sum_along (served_by scenario server x) [] h

abbrev pub own_time : Scenario → List Entry → ℕ → ℕ
own_time scenario h server = sum_along (own_by scenario server) [] h

abbrev pub run_time : List Entry → ℕ → ℕ
run_time h server = sum_by (ran_by server) h

-- for how long a thread's calls were served: those that were answered, and the one that goes on
abbrev pub served_since : Option Asked → ℕ
served_since None = 0
served_since (Some asked) = asked.served

abbrev pub served_in_all : Calls → ℕ
served_in_all calls = sum_by (λ (call : Call). call.asked.served) calls.ended + served_since calls.current
