-- How long a call that goes on has been served: no longer than all entries together.
use Rattle.std.proofs.Common.{◌≡◌, ℕ, ◌+◌, ◌*◌, ◌≤◌, Bool, ◌&&◌, List, [], ◌∷◌, ◌++◌, length, Option, Some, None, inl, inr, All, refl, sym, subst, arith}
use Rattle.std.specs.Prelude.{IfSome}
use Rattle.std.specs.List.{AllByRecursion}
use Rattle.std.proofs.lemmas.Bool.{cases_Bool}
use Rattle.std.proofs.lemmas.List.Elements.{recursion_from_All}
use Rattle.aps_model.specs.declared.entry.Done.{Done}
use Rattle.aps_model.specs.declared.entry.Done.TheVariants.{ReceiveGot, ReplyFreed, Exit}
use Rattle.aps_model.specs.declared.entry.Entry.{Entry}
use Rattle.aps_model.specs.declared.program.Op.{Op}
use Rattle.aps_model.specs.declared.program.Op.TheVariants.{Send}
use Rattle.aps_model.specs.declared.state.State.{State}
use Rattle.aps_model.specs.declared.state.State.TheVariants.{Running, Sending, Replying}
use Rattle.aps_model.specs.After.{state_after}
use Rattle.aps_model.specs.History.{IsEntry}
use Rattle.aps_model.specs.Limits.{longest_tick, most_entries}
use Rattle.aps_model.specs.Report.{length_of}
use Rattle.aps_model.specs.Scenario.{Scenario, op_at}
use Rattle.aps_model.specs.SchedulerState.{thread_at}
use Rattle.aps_model.specs.Usage.{names}
use Rattle.view_latency.specs.declared.call.Asked.{Asked}
use Rattle.view_latency.specs.declared.news.News.{News}
use Rattle.view_latency.specs.declared.news.News.TheVariants.{Nothing, Sent, Taken, Served, Answered}
use Rattle.view_latency.specs.News.{is_send, news_in, news_of, news_of_taking, sent_by, served, taken_if, time_of}
use Rattle.view_latency.specs.Calls.{AreCalls, Calls, CallsHaveRoom, HasRoomInCall, calls_from, calls_of, no_calls, served_for, taken_at, with_news, calls_with_entry}

-- ---- no entry tells of more time than its own

pub sent_none : (op : Op) (k : ℕ) → time_of (sent_by op) ≤ k
sent_none (Send c) k = omega arith
sent_none op k = omega arith

taken_none : (is_taken : Bool) (k : ℕ) → time_of (taken_if is_taken) ≤ k
taken_none is_taken k = elim (cases_Bool is_taken) [ inl taken ↦ rw taken (omega arith) | inr left ↦ rw left (omega arith) ]

pub taking_none : (x : ℕ) (done : Done) (k : ℕ) → time_of (news_of_taking x done) ≤ k
taking_none x (ReceiveGot sender) k = taken_none _ k
taking_none x done k = omega arith

pub served_time : (done : Done) (ns : ℕ) → time_of (served done ns) ≡ ns
served_time (ReplyFreed client) ns = refl
served_time Exit ns = refl
served_time done ns = refl

time_in : (scenario : Scenario) (x place : ℕ) (state : State) (e : Entry) → time_of (news_in scenario x place state e) ≤ length_of e
time_in scenario x place (Running c) e =
    elim (cases_Bool (names e.ran x && is_send e.done)) [
      | inl own ↦ rw own (sent_none (op_at scenario x place) (length_of e))
      | inr other ↦ rw other (omega arith)
    ]
time_in scenario x place (Sending c) e = taking_none x e.done (length_of e)
time_in scenario x place (Replying server) e =
    elim (cases_Bool (names e.ran server)) [
      | inl ran ↦ rw ran (let same = served_time e.done (length_of e) in omega (arith, same))
      | inr other ↦ rw other (omega arith)
    ]
time_in scenario x place state e = omega arith

-- ---- a call that goes on was served for at most so long

abbrev pub IsServedAtMost : ℕ → Option Asked → Type 0
IsServedAtMost n current = IfSome current (λ (asked : Asked). asked.served ≤ n)

at_most_more : (n m : ℕ) (current : Option Asked) → n ≤ m → IsServedAtMost n current → IsServedAtMost m current
at_most_more n m (Some asked) le small = omega (arith, le, small)
at_most_more n m None le small = tt

taken_small : (n moment : ℕ) (current : Option Asked) → IsServedAtMost n current → IsServedAtMost n (taken_at moment current)
taken_small n moment (Some asked) small = small
taken_small n moment None small = tt

served_small : (n ns : ℕ) (current : Option Asked) → IsServedAtMost n current → IsServedAtMost (n + ns) (served_for ns current)
served_small n ns (Some asked) small = omega (arith, small)
served_small n ns None small = tt

news_small : (n k : ℕ) (calls : Calls) (moment : ℕ) (news : News) → time_of news ≤ k → IsServedAtMost n calls.current
    → IsServedAtMost (n + k) (with_news calls moment news).current
news_small n k calls moment Nothing short small = at_most_more n (n + k) calls.current (omega arith) small
news_small n k calls moment (Sent c) short small = omega arith
news_small n k calls moment Taken short small = at_most_more n (n + k) (taken_at moment calls.current) (omega arith) (taken_small n moment calls.current small)
news_small n k calls moment (Served ns) short small =
    at_most_more (n + ns) (n + k) (served_for ns calls.current) (omega (arith, short)) (served_small n ns calls.current small)
news_small n k calls moment (Answered ns) short small = tt

from_small : (scenario : Scenario) (x n : ℕ) (calls : Calls) (h es : List Entry) → AllByRecursion IsEntry es → IsServedAtMost n calls.current
    → IsServedAtMost (n + length es * longest_tick) (calls_from scenario x calls h es).current
from_small scenario x n calls h [] entries small = at_most_more n (n + 0 * longest_tick) calls.current (omega arith) small
from_small scenario x n calls h (e ∷ es) entries small =
    let s = state_after scenario h in
    let time = time_in scenario x (thread_at s x).place (thread_at s x).state e in
    let short = entries.0.short in
    let next = calls_with_entry scenario s x calls e in
    let here : IsServedAtMost (n + longest_tick) next.current = news_small n longest_tick calls e.to (news_of scenario s x e) (omega (arith, time, short)) small in
    at_most_more (n + longest_tick + length es * longest_tick) (n + length (e ∷ es) * longest_tick) (calls_from scenario x next (h ++ e ∷ []) es).current (omega arith)
    (from_small scenario x (n + longest_tick) next (h ++ e ∷ []) es entries.1 here)

pub calls_small : (scenario : Scenario) (h : List Entry) (x : ℕ) → All IsEntry h → length h ≤ most_entries → HasRoomInCall (calls_of scenario h x).current
unfolding calls_of
calls_small scenario h x entries few =
    at_most_more (0 + length h * longest_tick) 9223372036854775808 (calls_from scenario x no_calls [] h).current (omega (arith, few))
    (from_small scenario x 0 no_calls [] h (recursion_from_All IsEntry h entries) tt)

pub have_room : (scenario : Scenario) (h : List Entry) (calls : List Calls) → AreCalls scenario h calls → All IsEntry h → length h ≤ most_entries → CallsHaveRoom calls
have_room scenario h calls are entries few =
    λ x less. let count = are.count in
    subst (λ (c : Calls). HasRoomInCall c.current) (sym (are.each x (omega (arith, less, count)))) (calls_small scenario h x entries few)
