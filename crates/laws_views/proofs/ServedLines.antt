-- What the lines of a thread tell of its calls, of all channels together.
use Rattle.std.proofs.Common.{◌≡◌, ℕ, ◌+◌, ◌<◌, List, [], ◌∷◌, ◌++◌, length, Bool, true, false, ◌&&◌, cond, if◌then◌else◌, nat_eq, Option, Some, None, refl, ◌∙◌, arith}
use Rattle.std.specs.Prelude.{IfSome, ⊤}
use Rattle.std.specs.List.{AllByRecursion, fold, range_with_len, sum_by}
use Rattle.std.proofs.lemmas.List.Sums.{sum_by-cons}
use Rattle.aps_model.specs.declared.entry.Done.{Done}
use Rattle.aps_model.specs.declared.entry.Done.TheVariants.{Exit, ReceiveGot, ReplyFreed}
use Rattle.aps_model.specs.declared.entry.Entry.{Entry}
use Rattle.aps_model.specs.declared.program.Op.{Op}
use Rattle.aps_model.specs.declared.program.Op.TheVariants.{Send}
use Rattle.aps_model.specs.declared.state.State.{State}
use Rattle.aps_model.specs.declared.state.State.TheVariants.{Running, Sending, Replying}
use Rattle.aps_model.specs.After.{state_after}
use Rattle.aps_model.specs.Report.{length_of}
use Rattle.aps_model.specs.Scenario.{Scenario, op_at}
use Rattle.aps_model.specs.SchedulerState.{thread_at}
use Rattle.aps_model.specs.Usage.{names}
use Rattle.aps_model.specs.Valid.{IsScenario}
use Rattle.laws_runs.proofs.Channels.{names_channels}
use Rattle.laws_bounds.specs.Sums.{sum_below}
use Rattle.laws_bounds.proofs.Sums.{single_full, sum_below_add, sum_below_same, sum_below_zero, sum_range}
use Rattle.view_latency.specs.declared.answered.Answered.{Answered}
use Rattle.view_latency.specs.declared.call.Asked.{Asked}
use Rattle.view_latency.specs.declared.call.Call.{Call}
use Rattle.view_latency.specs.declared.news.News.{News}
use Rattle.view_latency.specs.declared.news.News.TheVariants as news
use Rattle.view_latency.specs.Answered.{answered_at, none_answered, with_call, with_own_call}
use Rattle.view_latency.specs.Calls.{Calls, calls_from, calls_of, with_answered_call, no_calls, served_for, taken_at, with_news}
use Rattle.view_latency.specs.News.{is_send, news_in, news_of, news_of_taking, sent_by, served, taken_if}
use Rattle.laws_views.specs.Served.{served_in_all, served_since}

-- ---- the answered calls to one channel

abbrev served_at : ℕ → Call → ℕ
served_at c call = if nat_eq call.asked.channel c then call.asked.served else 0

answered_from : (c : ℕ) (answered : Answered) (calls : List Call) → (fold (with_call c) answered calls).served ≡ answered.served + sum_by (served_at c) calls
answered_from c answered [] = omega arith
answered_from c answered (call ∷ calls) =
    let rest = answered_from c (with_call c answered call) calls in
    let here = by_test (nat_eq call.asked.channel c) in
    let cons = sum_by-cons (served_at c) call calls in
    rest ∙ added (with_call c answered call).served answered.served (served_at c call) (sum_by (served_at c) calls) (sum_by (served_at c) (call ∷ calls)) here cons
  where
    by_test : (t : Bool) → (cond t (with_own_call answered call) answered).served ≡ answered.served + (if t then call.asked.served else 0)
    by_test true = refl
    by_test false = omega arith

    added : (next old one rest all : ℕ) → next ≡ old + one → all ≡ one + rest → next + rest ≡ old + all
    added next old one rest all x y = omega (arith, x, y)

-- ---- of all channels

abbrev time_of_call : Call → ℕ
time_of_call call = call.asked.served

channels_sum : (n : ℕ) (calls : List Call) → AllByRecursion (λ (call : Call). call.asked.channel < n) calls → sum_below n (λ c. sum_by (served_at c) calls) ≡ sum_by time_of_call calls
channels_sum n [] known = sum_below_zero n (λ c. 0) (λ c. refl)
channels_sum n (call ∷ calls) known =
    let one = single_full n call.asked.served call.asked.channel known.0 in
    let rest = channels_sum n calls known.1 in
    let split = sum_below_add n (λ c. served_at c call) (λ c. sum_by (served_at c) calls) (λ c. sum_by (served_at c) (call ∷ calls)) (λ c. sum_by-cons (served_at c) call calls) in
    let cons = sum_by-cons time_of_call call calls in
    omega (arith, one, rest, split, cons)

-- ---- calls go to channels that exist

record AreKnown (n : ℕ) (calls : Calls) : Type 0 where
  ended : AllByRecursion (λ (call : Call). call.asked.channel < n) calls.ended
  current : IfSome calls.current (λ (asked : Asked). asked.channel < n)

abbrev IsKnown : ℕ → News → Type 0
IsKnown n (news.Sent c) = c < n
IsKnown n news.Nothing = ⊤
IsKnown n news.Taken = ⊤
IsKnown n (news.Served ns) = ⊤
IsKnown n (news.Answered ns) = ⊤

sent_known : (n : ℕ) (op : Op) → ((c : ℕ) → op ≡ Send c → c < n) → IsKnown n (sent_by op)
sent_known n (Send c) known = known c refl
sent_known n op known = tt

taken_known : (n : ℕ) (t : Bool) → IsKnown n (taken_if t)
taken_known n true = tt
taken_known n false = tt

taking_known : (n x : ℕ) (done : Done) → IsKnown n (news_of_taking x done)
taking_known n x (ReceiveGot sender) = taken_known n (nat_eq sender x)
taking_known n x done = tt

served_known : (n : ℕ) (done : Done) (ns : ℕ) → IsKnown n (served done ns)
served_known n (ReplyFreed w) ns = tt
served_known n Exit ns = tt
served_known n done ns = tt

news_known : (scenario : Scenario) (x place : ℕ) (st : State) (e : Entry) → IsScenario scenario → IsKnown (length scenario.channels) (news_in scenario x place st e)
news_known scenario x place (Running c) e valid = by_test (names e.ran x && is_send e.done)
  where
    by_test : (t : Bool) → IsKnown (length scenario.channels) (cond t (sent_by (op_at scenario x place)) news.Nothing)
    by_test true = sent_known (length scenario.channels) (op_at scenario x place) ((names_channels scenario valid).sends x place)
    by_test false = tt
news_known scenario x place (Sending c) e valid = taking_known (length scenario.channels) x e.done
news_known scenario x place (Replying server) e valid = by_test (names e.ran server)
  where
    by_test : (t : Bool) → IsKnown (length scenario.channels) (cond t (served e.done (length_of e)) news.Nothing)
    by_test true = served_known (length scenario.channels) e.done (length_of e)
    by_test false = tt
news_known scenario x place st e valid = tt

all_push : (n : ℕ) (calls : List Call) (call : Call) → AllByRecursion (λ (call : Call). call.asked.channel < n) calls → call.asked.channel < n → AllByRecursion (λ (call : Call). call.asked.channel < n) (calls ++ call ∷ [])
all_push n [] call known here = (here, tt)
all_push n (first ∷ calls) call known here = (known.0, all_push n calls call known.1 here)

taken_kept : (n moment : ℕ) (o : Option Asked) → IfSome o (λ (asked : Asked). asked.channel < n) → IfSome (taken_at moment o) (λ (asked : Asked). asked.channel < n)
taken_kept n moment None known = tt
taken_kept n moment (Some asked) known = known

served_kept : (n ns : ℕ) (o : Option Asked) → IfSome o (λ (asked : Asked). asked.channel < n) → IfSome (served_for ns o) (λ (asked : Asked). asked.channel < n)
served_kept n ns None known = tt
served_kept n ns (Some asked) known = known

closing_kept : (n moment : ℕ) (ended : List Call) (o : Option Asked) → AllByRecursion (λ (call : Call). call.asked.channel < n) ended → IfSome o (λ (asked : Asked). asked.channel < n)
    → AllByRecursion (λ (call : Call). call.asked.channel < n) (with_answered_call ended o moment)
closing_kept n moment ended None known here = known
closing_kept n moment ended (Some asked) known here = all_push n ended (record { asked = asked; end = moment }) known here

news_kept : (n : ℕ) (calls : Calls) (moment : ℕ) (told : News) → IsKnown n told → AreKnown n calls → AreKnown n (with_news calls moment told)
news_kept n calls moment news.Nothing is known = known
news_kept n calls moment (news.Sent c) is known = record { ended = known.ended; current = is }
news_kept n calls moment news.Taken is known = record { ended = known.ended; current = taken_kept n moment calls.current known.current }
news_kept n calls moment (news.Served ns) is known = record { ended = known.ended; current = served_kept n ns calls.current known.current }
news_kept n calls moment (news.Answered ns) is known =
    record { ended = closing_kept n moment calls.ended (served_for ns calls.current) known.ended (served_kept n ns calls.current known.current); current = tt }

from_known : (scenario : Scenario) (x : ℕ) (calls : Calls) (h es : List Entry) → IsScenario scenario → AreKnown (length scenario.channels) calls → AreKnown (length scenario.channels) (calls_from scenario x calls h es)
from_known scenario x calls h [] valid known = known
from_known scenario x calls h (e ∷ es) valid known =
    let s = state_after scenario h in
    let told = news_of scenario s x e in
    from_known scenario x (with_news calls e.to told) (h ++ e ∷ []) es valid
    (news_kept (length scenario.channels) calls e.to told (news_known scenario x (thread_at s x).place (thread_at s x).state e valid) known)

calls_known : (scenario : Scenario) (h : List Entry) (x : ℕ) → IsScenario scenario → AreKnown (length scenario.channels) (calls_of scenario h x)
unfolding calls_of
calls_known scenario h x valid = from_known scenario x no_calls [] h valid (record { ended = tt; current = tt })

-- ---- the lines

pub lines_sum : (scenario : Scenario) (h : List Entry) (x : ℕ) → IsScenario scenario
    → sum_by (λ c. (answered_at c (calls_of scenario h x).ended).served) (range_with_len 0 (length scenario.channels)) + served_since (calls_of scenario h x).current ≡ served_in_all (calls_of scenario h x)
lines_sum scenario h x valid =
    let n : ℕ = length scenario.channels in
    let calls = calls_of scenario h x in
    let known = (calls_known scenario h x valid).ended in
    let range = sum_range n (λ c. (answered_at c calls.ended).served) in
    let each = sum_below_same n (λ c. (answered_at c calls.ended).served) (λ c. sum_by (served_at c) calls.ended)
    (λ c. let from = answered_from c none_answered calls.ended in omega (arith, from)) in
    let all = channels_sum n calls.ended known in
    omega (arith, range, each, all)
