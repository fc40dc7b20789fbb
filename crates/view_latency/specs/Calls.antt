-- The calls of a thread: each from the end of its send to its reply, or to the server's exit.
use Rattle.std.specs.Prelude.{◌≡◌, ℕ, ◌+◌, ◌-◌, ◌<◌, ◌≤◌, ◌^◌, ◌++◌, List, [], ◌∷◌, length, slice_index_or, Option, Some, None, IfSome}
use Rattle.aps_model.specs.declared.entry.Entry.{Entry}
use Rattle.aps_model.specs.After.{state_after}
use Rattle.aps_model.specs.Scenario.{Scenario}
use Rattle.aps_model.specs.SchedulerState.{SchedulerState}
use Rattle.view_latency.specs.declared.call.Asked.{Asked}
use Rattle.view_latency.specs.declared.call.Call.{Call}
use Rattle.view_latency.specs.declared.news.News.{News}
use Rattle.view_latency.specs.declared.news.News.TheVariants.{Nothing, Sent, Taken, Served, Answered}
use Rattle.view_latency.specs.News.{news_of}

-- those that were answered, in order, and the one that goes on
pub record Calls : Type 0 where
  pub ended : List Call
  pub current : Option Asked

abbrev pub no_calls : Calls
no_calls = record { ended = []; current = None }

-- ---- one call

-- a call to this channel, which begins at this moment
abbrev pub asked_at : ℕ → ℕ → Asked
asked_at c moment = record { channel = c; begin = moment; queued = 0; served = 0 }

-- its message is taken at this moment
abbrev pub taken_at : ℕ → Option Asked → Option Asked
taken_at moment (Some asked) = Some (record asked { queued = moment - asked.begin })
taken_at moment None = None

-- its server ran for so much more
abbrev pub served_for : ℕ → Option Asked → Option Asked
served_for ns (Some asked) = Some (record asked { served = asked.served + ns })
served_for ns None = None

-- the calls that were answered, with this one at this moment
abbrev pub with_answered_call : List Call → Option Asked → ℕ → List Call
with_answered_call ended (Some asked) moment = ended ++ (record { asked = asked; end = moment }) ∷ []
with_answered_call ended None moment = ended

-- the call that goes on was served for so much more, and is answered at this moment
abbrev pub closed : Calls → ℕ → ℕ → Calls
closed calls ns moment = record { ended = with_answered_call calls.ended (served_for ns calls.current) moment; current = None }

-- ---- the calls by the entries

-- an entry that ends at this moment tells this
abbrev pub with_news : Calls → ℕ → News → Calls
with_news calls moment Nothing = calls
with_news calls moment (Sent c) = record calls { current = Some (asked_at c moment) }
with_news calls moment Taken = record calls { current = taken_at moment calls.current }
with_news calls moment (Served ns) = record calls { current = served_for ns calls.current }
with_news calls moment (Answered ns) = closed calls ns moment

-- the calls of thread x with one entry more, before which this state stood
abbrev pub calls_with_entry : Scenario → SchedulerState → ℕ → Calls → Entry → Calls
calls_with_entry scenario s x calls e = with_news calls e.to (news_of scenario s x e)

-- the calls of thread x with further entries
abbrev pub calls_from : Scenario → ℕ → Calls → List Entry → List Entry → Calls
calls_from scenario x calls h [] = calls
calls_from scenario x calls h (e ∷ es) =
    calls_from scenario x (calls_with_entry scenario (state_after scenario h) x calls e) (h ++ e ∷ []) es

-- the calls of thread x in a history
unfoldable pub calls_of : Scenario → List Entry → ℕ → Calls
calls_of scenario h x = calls_from scenario x no_calls [] h

-- ---- of all threads

-- these are the calls of all threads
pub record AreCalls (scenario : Scenario) (h : List Entry) (calls : List Calls) : Type 0 where
  pub count : length calls ≡ length scenario.threads
  pub each : (x : ℕ) → x < length scenario.threads → slice_index_or calls x no_calls ≡ calls_of scenario h x

-- those of each thread go on with this entry, before which this state stood
pub record AreLongerCalls (scenario : Scenario) (s : SchedulerState) (e : Entry) (before after : List Calls) : Type 0 where
  pub count : length after ≡ length before
  pub each : (x : ℕ) → x < length before
      → slice_index_or after x no_calls ≡ calls_with_entry scenario s x (slice_index_or before x no_calls) e

-- the time of one entry more can be added
abbrev pub HasRoomInCall : Option Asked → Type 0
HasRoomInCall current = IfSome current (λ (asked : Asked). asked.served ≤ 2 ^ 63)

abbrev pub CallsHaveRoom : List Calls → Type 0
CallsHaveRoom calls = (x : ℕ) → x < length calls → HasRoomInCall (slice_index_or calls x no_calls).current
