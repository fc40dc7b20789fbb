-- For how long the calls of a thread were served, by what servers ran.
use Rattle.std.proofs.Common.{◌≡◌, ◌≢◌, ℕ, ◌+◌, ◌≤◌, List, [], ◌∷◌, ◌++◌, length, replicate, get_or, Bool, true, false, not, ◌&&◌, cond, if◌then◌else◌, nat_eq, Option, Some, None, inl, inr, refl, sym, ap, subst, ◌∙◌, append_assoc, arith}
use Rattle.std.specs.Prelude.{is_some, ⊤}
use Rattle.std.specs.List.{range_with_len, sum_by}
use Rattle.std.proofs.lemmas.Bool.{and_from, and_parts, cases_lt, false_from_ne_true}
use Rattle.std.proofs.lemmas.List.{get_or-replicate, get_or_past, length-map, length-replicate}
use Rattle.std.proofs.lemmas.List.Sums.{sum_by_push}
use Rattle.aps_model.specs.declared.entry.Done.{Done}
use Rattle.aps_model.specs.declared.entry.Done.TheVariants.{Exit, ReceiveGot, ReplyFreed}
use Rattle.aps_model.specs.declared.entry.Entry.{Entry}
use Rattle.aps_model.specs.declared.entry.Order.{Order}
use Rattle.aps_model.specs.declared.program.Op.{Op}
use Rattle.aps_model.specs.declared.program.Op.TheVariants.{Send}
use Rattle.aps_model.specs.declared.state.Pick.{Pick}
use Rattle.aps_model.specs.declared.state.State.{State}
use Rattle.aps_model.specs.declared.state.State.TheVariants.{Ready, Running, Sleeping, Sending, Receiving, Replying, Gone}
use Rattle.aps_model.specs.After.{state_after}
use Rattle.aps_model.specs.Inherit.{facts_of}
use Rattle.aps_model.specs.Legal.{IsLegal}
use Rattle.aps_model.specs.Report.{length_of}
use Rattle.aps_model.specs.Scenario.{Scenario, op_at}
use Rattle.aps_model.specs.SchedulerState.{ChannelNow, SchedulerState, channel_at, cpu_at, thread_at}
use Rattle.aps_model.specs.Usage.{names}
use Rattle.aps_model.specs.Valid.{IsScenario}
use Rattle.laws_runs.specs.Untouched.{thread_kept}
use Rattle.laws_runs.specs.Waits.{IsWaiting, is_replying, is_sending, one_if, state_at, times_paired, times_sent}
use Rattle.laws_runs.proofs.Channels.{names_channels}
use Rattle.laws_runs.proofs.Counts.{counts_law}
use Rattle.laws_runs.proofs.Sound.{legal_last, sound, step_law}
use Rattle.laws_runs.proofs.ThreadFacts.{within}
use Rattle.laws_runs.proofs.WaitFacts.{replying_from, served_none, test_eq}
use Rattle.laws_runs.proofs.Words.{prefix_legal}
use Rattle.laws_bounds.specs.Sums.{sum_below}
use Rattle.laws_bounds.proofs.Sums.{single_full, sum_below_add, sum_below_zero, sum_range}
use Rattle.laws_bounds.specs.FreeTime.{sum_along}
use Rattle.view_latency.specs.declared.call.Asked.{Asked}
use Rattle.view_latency.specs.declared.call.Call.{Call}
use Rattle.view_latency.specs.declared.news.News.{News}
use Rattle.view_latency.specs.declared.news.News.TheVariants.{Nothing, Sent, Taken, Served, Answered}
use Rattle.view_latency.specs.Calls.{Calls, calls_from, calls_of, with_answered_call, no_calls, served_for, taken_at, with_news}
use Rattle.view_latency.specs.News.{is_send, news_in, news_of, news_of_taking, sent_by, served, taken_if, time_of}
use Rattle.view_latency.proofs.Holding.{counted_once}
use Rattle.view_explain.specs.Ties.{after_ran, channel_of_operation, tied_messages_at, ties_of}
use Rattle.view_explain.proofs.Tied.{ties_more, ties_none}
use Rattle.laws_views.specs.Served.{served_by, served_in_all, served_since, served_time}
use Rattle.laws_views.proofs.OpenTies.{IsOpen, freed, frees, held_on, is_open, open_from, open_to, opens, read, sends_on, was_open}
use Rattle.laws_views.proofs.SaidSo.{said_so}
use Rattle.laws_views.proofs.ServedTimes.{names_is, none_from, some_same}

clash : false ≡ true → ⊥
clash same = cc

-- ---- whether a call goes on, by what an entry tells

abbrev opens_by : News → Bool → Bool
opens_by Nothing goes = goes
opens_by (Sent c) goes = true
opens_by Taken goes = goes
opens_by (Served ns) goes = goes
opens_by (Answered ns) goes = false

abbrev FitsNews : News → Bool → Type 0
FitsNews Nothing goes = ⊤
FitsNews (Sent c) goes = goes ≡ false
FitsNews Taken goes = ⊤
FitsNews (Served ns) goes = goes ≡ true
FitsNews (Answered ns) goes = goes ≡ true

sent_fits : (op : Op) → FitsNews (sent_by op) false
sent_fits (Send c) = refl
sent_fits op = tt

taken_fits : (t : Bool) → FitsNews (taken_if t) true
taken_fits true = tt
taken_fits false = tt

taking_fits : (x : ℕ) (done : Done) → FitsNews (news_of_taking x done) true
taking_fits x (ReceiveGot sender) = taken_fits (nat_eq sender x)
taking_fits x done = tt

served_fits : (done : Done) (ns : ℕ) → FitsNews (served done ns) true
served_fits (ReplyFreed w) ns = refl
served_fits Exit ns = refl
served_fits done ns = refl

news_fits : (scenario : Scenario) (x place : ℕ) (st : State) (e : Entry) → FitsNews (news_in scenario x place st e) (is_open st)
news_fits scenario x place (Running c) e = by_test (names e.ran x && is_send e.done)
  where
    by_test : (t : Bool) → FitsNews (cond t (sent_by (op_at scenario x place)) Nothing) false
    by_test true = sent_fits (op_at scenario x place)
    by_test false = tt
news_fits scenario x place (Sending c) e = taking_fits x e.done
news_fits scenario x place (Replying server) e = by_test (names e.ran server)
  where
    by_test : (t : Bool) → FitsNews (cond t (served e.done (length_of e)) Nothing) true
    by_test true = served_fits e.done (length_of e)
    by_test false = tt
news_fits scenario x place Ready e = tt
news_fits scenario x place (Sleeping until) e = tt
news_fits scenario x place (Receiving c) e = tt
news_fits scenario x place Gone e = tt

taken_open : (t : Bool) → opens_by (taken_if t) true ≡ true
taken_open true = refl
taken_open false = refl

taking_open : (x : ℕ) (done : Done) → opens_by (news_of_taking x done) true ≡ true
taking_open x (ReceiveGot sender) = taken_open (nat_eq sender x)
taking_open x done = refl

served_open : (done : Done) (ns : ℕ) → opens_by (served done ns) true ≡ not (frees done)
served_open (ReplyFreed w) ns = refl
served_open Exit ns = refl
served_open done ns = refl

-- ---- one entry

some_thread : (o : Option Pick) (x : ℕ) → thread_kept o ≡ Some x → (pick : Pick) × (o ≡ Some pick) × (pick.thread ≡ x)
some_thread None x is = absurd cc
some_thread (Some pick) x is = (pick, refl, some_same pick.thread x is)

module _ (scenario : Scenario) (order : Order) (r : IsScenario scenario) (h : List Entry) (e : Entry) (legal : IsLegal scenario order (h ++ e ∷ [])) where
  abbrev s : SchedulerState
  s = state_after scenario h

  abbrev t : SchedulerState
  t = state_after scenario (h ++ e ∷ [])

  old : IsLegal scenario order h
  old = (legal_last scenario order h e legal).0

  before : IsWaiting (state_at s) (channel_at s) s.triples
  before = (sound scenario order r h old).grounded.plain.waiting

  after : IsWaiting (state_at t) (channel_at t) t.triples
  after = (sound scenario order r (h ++ e ∷ []) legal).grounded.plain.waiting

  ties : ties_of t ≡ after_ran scenario s (ties_of s) e.ran e.done
  ties = ties_more scenario order h e r legal

  -- who ran was running
  pub was_running : (x : ℕ) → e.ran ≡ Some x → state_at s x ≡ Running e.cpu
  was_running x ran =
      let step = step_law scenario order h e r legal in
      let kept = some_thread (cpu_at s e.cpu).running x (sym step.ran ∙ ran) in
      subst (λ y. state_at s y ≡ Running e.cpu) kept.2 ((sound scenario order r h old).grounded.kept.runs e.cpu kept.0 kept.1)

  module _ (x : ℕ) where
    opened : IsOpen (after_ran scenario s (ties_of s) e.ran e.done) x → is_open (state_at t x) ≡ true
    opened goes = open_to t x after (subst (λ k. IsOpen k x) (sym ties) goes)

    -- who wasn't open isn't, unless it has sent
    closed : is_open (state_at s x) ≡ false → (e.ran ≡ Some x → is_send e.done ≡ true → ⊥) → is_open (state_at t x) ≡ false
    closed shut silent = false_from_ne_true (is_open (state_at t x)) (λ is. by_ran e.ran refl (subst (λ k. IsOpen k x) ties (open_from t x after is)))
      where
        was : IsOpen (ties_of s) x → ⊥
        was goes = clash (sym shut ∙ open_to s x before goes)

        by_ran : (o : Option ℕ) → e.ran ≡ o → IsOpen (after_ran scenario s (ties_of s) o e.done) x → ⊥
        by_ran None ran goes = was goes
        by_ran (Some y) ran goes =
            let got : e.done ≡ ReceiveGot x → IsOpen (ties_of s) x = λ is.
            let at = (said_so scenario order h e r legal y ran).takes x is in
            inl (at.0, subst (λ n. 1 ≤ n) (sym (ap (times_sent x) (read s at.0))) at.1) in
            elim (was_open (ties_of s) x y (channel_of_operation (op_at scenario y (thread_at s y).place)) (facts_of s y).priority e.done got goes) [
              | inl open_then ↦ was open_then
              | inr sent ↦ silent (ran ∙ ap (λ (z : ℕ). Some z) sent.0) sent.1
            ]

    abbrev op : Op
    op = op_at scenario x (thread_at s x).place

    -- who has sent is open
    has_sent : e.ran ≡ Some x → is_send e.done ≡ true → (c : ℕ) → op ≡ Send c → is_open (state_at t x) ≡ true
    has_sent ran sends c is =
        let named = (names_channels scenario r).sends x (thread_at s x).place c is in
        let channels = (counts_law scenario order h r old).channels in
        let count = length-map s.channels (λ (k : ChannelNow). k.messages) in
        let place : channel_of_operation op ≡ c = ap channel_of_operation is in
        let goes = opens (ties_of s) x x (channel_of_operation op) (facts_of s x).priority e.done refl sends (omega (arith, named, channels, count, place)) in
        opened (subst (λ o. IsOpen (after_ran scenario s (ties_of s) o e.done) x) (sym ran) goes)

    by_own : (c : ℕ) → state_at s x ≡ Running c → (b : Bool) → (names e.ran x && is_send e.done) ≡ b → is_open (state_at t x) ≡ opens_by (cond b (sent_by op) Nothing) false
    by_own c runs true is =
        let both = and_parts (names e.ran x) (is_send e.done) is in
        let ran = names_is e.ran x both.0 in
        let at = (said_so scenario order h e r legal x ran).sends both.1 in
        has_sent ran both.1 at.0 at.1 ∙ sym (ap (λ o. opens_by (sent_by o) false) at.1)
    by_own c runs false is =
        closed (ap is_open runs) (λ ran sends. clash (sym is ∙ and_from (names e.ran x) (is_send e.done) (ap (λ o. names o x) ran ∙ test_eq x x refl) sends))

    -- whose message waits stays open
    stays_sending : (c : ℕ) → state_at s x ≡ Sending c → is_open (state_at t x) ≡ true
    stays_sending c sends =
        let count = (before.at x).sends c ∙ ap (is_sending c) sends ∙ ap one_if (test_eq c c refl) in
        let same = ap (times_sent x) (read s c) in
        let there : 1 ≤ times_sent x (tied_messages_at (ties_of s) c) = omega (arith, count, same) in
        opened (by_ran e.ran c there)
      where
        by_ran : (o : Option ℕ) (c : ℕ) → 1 ≤ times_sent x (tied_messages_at (ties_of s) c) → IsOpen (after_ran scenario s (ties_of s) o e.done) x
        by_ran None c there = inl (c, there)
        by_ran (Some y) c there = sends_on (ties_of s) x y (channel_of_operation (op_at scenario y (thread_at s y).place)) (facts_of s y).priority e.done (c, there)

    module _ (z : ℕ) (replies : state_at s x ≡ Replying z) where
      held : 1 ≤ times_paired z x s.triples
      held = let count = (before.at x).waits z ∙ ap (is_replying z) replies ∙ ap one_if (test_eq z z refl) in omega (arith, count)

      stays_held : (o : Option ℕ) → (frees e.done ≡ true → o ≢ Some z) → IsOpen (after_ran scenario s (ties_of s) o e.done) x
      stays_held None other = inr (z, held)
      stays_held (Some y) other =
          held_on (ties_of s) x y (channel_of_operation (op_at scenario y (thread_at s y).place)) (facts_of s y).priority e.done z held
          (λ is same. other is (ap (λ (k : ℕ). Some k) same))

      only : (y : ℕ) → 1 ≤ times_paired y x s.triples → y ≡ z
      only y one =
          let count = (before.at x).waits y in
          same y z (sym (replying_from (state_at s x) y (omega (arith, one, count))) ∙ replies)
        where
          same : (a b : ℕ) → Replying a ≡ Replying b → a ≡ b
          same a b k = cc

      silent : (d : ℕ) → times_sent x (tied_messages_at (ties_of s) d) ≡ 0
      silent d = ap (times_sent x) (read s d) ∙ (before.at x).sends d ∙ ap (is_sending d) replies

      let_go : e.ran ≡ Some z → frees e.done ≡ true → is_open (state_at t x) ≡ false
      let_go ran is = false_from_ne_true (is_open (state_at t x)) (λ goes.
          freed (ties_of s) x z (channel_of_operation (op_at scenario z (thread_at s z).place)) (facts_of s z).priority e.done is (served_none s.triples z before.made) silent only
          (subst (λ o. IsOpen (after_ran scenario s (ties_of s) o e.done) x) ran (subst (λ k. IsOpen k x) ties (open_from t x after goes))))

      by_freed : (b : Bool) → frees e.done ≡ b → e.ran ≡ Some z → is_open (state_at t x) ≡ not b
      by_freed true is ran = let_go ran is
      by_freed false is ran = opened (stays_held e.ran (λ k same. clash (sym is ∙ k)))

      by_server : (b : Bool) → names e.ran z ≡ b → is_open (state_at t x) ≡ opens_by (cond b (served e.done (length_of e)) Nothing) true
      by_server true is = by_freed (frees e.done) refl (names_is e.ran z is) ∙ sym (served_open e.done (length_of e))
      by_server false is = opened (stays_held e.ran (λ k same. clash (sym is ∙ ap (λ o. names o z) same ∙ test_eq z z refl)))

    by_state : (st : State) → state_at s x ≡ st → is_open (state_at t x) ≡ opens_by (news_in scenario x (thread_at s x).place st e) (is_open st)
    by_state (Running c) is = by_own c is (names e.ran x && is_send e.done) refl
    by_state (Sending c) is = stays_sending c is ∙ sym (taking_open x e.done)
    by_state (Replying z) is = by_server z is (names e.ran z) refl
    by_state Ready is = closed (ap is_open is) (λ ran sends. other Ready is ran (λ k. cc))
      where
        other : (st : State) → state_at s x ≡ st → e.ran ≡ Some x → (Running e.cpu ≡ st → ⊥) → ⊥
        other st is ran ne = ne (sym (was_running x ran) ∙ is)
    by_state (Sleeping until) is = closed (ap is_open is) (λ ran sends. other (Sleeping until) is ran (λ k. cc))
      where
        other : (st : State) → state_at s x ≡ st → e.ran ≡ Some x → (Running e.cpu ≡ st → ⊥) → ⊥
        other st is ran ne = ne (sym (was_running x ran) ∙ is)
    by_state (Receiving c) is = closed (ap is_open is) (λ ran sends. other (Receiving c) is ran (λ k. cc))
      where
        other : (st : State) → state_at s x ≡ st → e.ran ≡ Some x → (Running e.cpu ≡ st → ⊥) → ⊥
        other st is ran ne = ne (sym (was_running x ran) ∙ is)
    by_state Gone is = closed (ap is_open is) (λ ran sends. other Gone is ran (λ k. cc))
      where
        other : (st : State) → state_at s x ≡ st → e.ran ≡ Some x → (Running e.cpu ≡ st → ⊥) → ⊥
        other st is ran ne = ne (sym (was_running x ran) ∙ is)

    pub now_open : is_open (state_at t x) ≡ opens_by (news_of scenario s x e) (is_open (state_at s x))
    now_open = by_state (state_at s x) refl

-- ---- sums of calls

taken_some : (moment : ℕ) (o : Option Asked) → is_some (taken_at moment o) ≡ is_some o
taken_some moment None = refl
taken_some moment (Some asked) = refl

served_some : (ns : ℕ) (o : Option Asked) → is_some (served_for ns o) ≡ is_some o
served_some ns None = refl
served_some ns (Some asked) = refl

with_open : (calls : Calls) (moment : ℕ) (news : News) → is_some (with_news calls moment news).current ≡ opens_by news (is_some calls.current)
with_open calls moment Nothing = refl
with_open calls moment (Sent c) = refl
with_open calls moment Taken = taken_some moment calls.current
with_open calls moment (Served ns) = served_some ns calls.current
with_open calls moment (Answered ns) = refl

taken_sum : (moment : ℕ) (o : Option Asked) → served_since (taken_at moment o) ≡ served_since o
taken_sum moment None = refl
taken_sum moment (Some asked) = refl

served_sum : (ns : ℕ) (o : Option Asked) → is_some o ≡ true → served_since (served_for ns o) ≡ served_since o + ns
served_sum ns None is = absurd cc
served_sum ns (Some asked) is = refl

no_sum : (o : Option Asked) → is_some o ≡ false → served_since o ≡ 0
no_sum None is = refl
no_sum (Some asked) is = absurd cc

abbrev ended_sum : List Call → ℕ
ended_sum ended = sum_by (λ (call : Call). call.asked.served) ended

closed_sum : (ended : List Call) (o : Option Asked) (moment : ℕ) → is_some o ≡ true → ended_sum (with_answered_call ended o moment) ≡ ended_sum ended + served_since o
closed_sum ended None moment is = absurd cc
closed_sum ended (Some asked) moment is = sum_by_push (λ (call : Call). call.asked.served) ended (record { asked = asked; end = moment })

with_sum : (calls : Calls) (moment : ℕ) (news : News) → FitsNews news (is_some calls.current) → served_in_all (with_news calls moment news) ≡ served_in_all calls + time_of news
with_sum calls moment Nothing fits = omega arith
with_sum calls moment (Sent c) fits = let none = no_sum calls.current fits in omega (arith, none)
with_sum calls moment Taken fits = let same = taken_sum moment calls.current in omega (arith, same)
with_sum calls moment (Served ns) fits = let more = served_sum ns calls.current fits in omega (arith, more)
with_sum calls moment (Answered ns) fits =
    let more = served_sum ns calls.current fits in
    let last = closed_sum calls.ended (served_for ns calls.current) moment (served_some ns calls.current ∙ fits) in
    omega (arith, more, last)

-- ---- all entries

module _ (scenario : Scenario) (order : Order) (r : IsScenario scenario) (x : ℕ) where
  abbrev time : List Entry → Entry → ℕ
  time before e = time_of (news_of scenario (state_after scenario before) x e)

  abbrev n : ℕ
  n = length scenario.threads

  calls_sum : (calls : Calls) (before es : List Entry) → IsLegal scenario order (before ++ es) → is_some calls.current ≡ is_open (state_at (state_after scenario before) x)
      → served_in_all (calls_from scenario x calls before es) ≡ served_in_all calls + sum_along time before es
  calls_sum calls before [] legal goes = omega arith
  calls_sum calls before (e ∷ es) legal goes =
      let s = state_after scenario before in
      let news = news_of scenario s x e in
      let all = subst (IsLegal scenario order) (sym (append_assoc before (e ∷ []) es)) legal in
      let one = prefix_legal scenario order (before ++ e ∷ []) es all in
      let fits : FitsNews news (is_some calls.current) = subst (FitsNews news) (sym goes) (news_fits scenario x (thread_at s x).place (state_at s x) e) in
      let here = with_sum calls e.to news fits in
      let goes' = with_open calls e.to news ∙ ap (opens_by news) goes ∙ sym (now_open scenario order r before e one x) in
      let rest = calls_sum (with_news calls e.to news) (before ++ e ∷ []) es all goes' in
      added (served_in_all (calls_from scenario x (with_news calls e.to news) (before ++ e ∷ []) es)) (served_in_all (with_news calls e.to news)) (served_in_all calls) (time_of news) (sum_along time (before ++ e ∷ []) es) rest here
    where
      added : (all next old time rest : ℕ) → all ≡ next + rest → next ≡ old + time → all ≡ old + (time + rest)
      added all next old time rest one two = omega (arith, one, two)

  nobody : (h : List Entry) → IsLegal scenario order h → is_open (state_at (state_after scenario []) x) ≡ false
  nobody h legal = false_from_ne_true _ (λ is. none (subst (λ k. IsOpen k x) (ties_none scenario) (open_from (state_after scenario []) x waiting is)))
    where
      waiting : IsWaiting (state_at (state_after scenario [])) (channel_at (state_after scenario [])) (state_after scenario []).triples
      waiting = (sound scenario order r [] (prefix_legal scenario order [] h legal)).grounded.plain.waiting

      no_message : (count d : ℕ) → times_sent x (get_or (replicate count []) d []) ≡ 0
      no_message count d = elim (cases_lt d count) [
        | inl less ↦ ap (times_sent x) (get_or-replicate count d [] [] less)
        | inr past ↦ ap (times_sent x) (get_or_past (replicate count []) d [] (subst (λ k. k ≤ d) (sym (length-replicate count [])) past))
      ]

      none : IsOpen (record { messages = replicate (length scenario.channels) []; triples = [] }) x → ⊥
      none (inl found) = let zero' = no_message (length scenario.channels) found.0 in let one = found.1 in omega (arith, zero', one)
      none (inr found) = let one = found.1 in omega (arith, one)

  -- ---- by servers

  one_server : (before : List Entry) (e : Entry) → IsLegal scenario order (before ++ e ∷ []) → (o : Option ℕ) → e.ran ≡ o → sum_below n (λ server. if names o server then time before e else 0) ≡ time before e
  one_server before e legal None ran =
      let old = (legal_last scenario order before e legal).0 in
      let counted = counted_once scenario order before e r old in
      let none : time before e ≡ 0 = none_from (time before e) (λ some. let of = counted.nobody_else x some in absent of.0 (sym ran ∙ of.1)) in
      let all = sum_below_zero n (λ server. 0) (λ server. refl) in
      omega (arith, none, all)
    where
      absent : (y : ℕ) → None ≡ Some y → ⊥
      absent y same = cc
  one_server before e legal (Some y) ran =
      let old = (legal_last scenario order before e legal).0 in
      let runs = was_running scenario order r before e legal y ran in
      let s = state_after scenario before in
      let inside = within s.threads y (λ gone. still e.cpu (sym runs ∙ gone)) in
      let count = (counts_law scenario order before r old).threads in
      single_full n (time before e) y (omega (arith, inside, count))
    where
      still : (c : ℕ) → ◌≡◌ {A = State} (Running c) Gone → ⊥
      still c same = cc

  servers_sum : (before es : List Entry) → IsLegal scenario order (before ++ es) → sum_below n (λ server. sum_along (served_by scenario server x) before es) ≡ sum_along time before es
  servers_sum before [] legal = sum_below_zero n (λ server. 0) (λ server. refl)
  servers_sum before (e ∷ es) legal =
      let all = subst (IsLegal scenario order) (sym (append_assoc before (e ∷ []) es)) legal in
      let one = prefix_legal scenario order (before ++ e ∷ []) es all in
      let here = one_server before e one e.ran refl in
      let rest = servers_sum (before ++ e ∷ []) es all in
      let split = sum_below_add n (λ server. served_by scenario server x before e) (λ server. sum_along (served_by scenario server x) (before ++ e ∷ []) es) (λ server. sum_along (served_by scenario server x) before (e ∷ es)) (λ server. refl) in
      added (sum_below n (λ server. sum_along (served_by scenario server x) before (e ∷ es))) (sum_below n (λ server. served_by scenario server x before e))
      (sum_below n (λ server. sum_along (served_by scenario server x) (before ++ e ∷ []) es)) (time before e) (sum_along time (before ++ e ∷ []) es) split here rest
    where
      added : (all one rest a b : ℕ) → all ≡ one + rest → one ≡ a → rest ≡ b → all ≡ a + b
      added all one rest a b x y z = omega (arith, x, y, z)

  pub calls_served : (h : List Entry) → IsLegal scenario order h → served_in_all (calls_of scenario h x) ≡ sum_by (λ server. served_time scenario h server x) (range_with_len 0 n)
  unfolding calls_of
  calls_served h legal =
      let calls = calls_sum no_calls [] h legal (sym (nobody h legal)) in
      let servers = servers_sum [] h legal in
      let range = sum_range n (λ server. served_time scenario h server x) in
      omega (arith, calls, servers, range)
