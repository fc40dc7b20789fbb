-- Who may call, and that an entry tells nothing of anybody else.
use Rattle.std.proofs.Common.{◌≡◌, ◌≢◌, ℕ, ◌+◌, ◌<◌, ◌≤◌, List, [], ◌∷◌, ◌++◌, length, get_or, Bool, true, false, ◌&&◌, cond, inl, inr, refl, sym, ap, subst, ◌∙◌, arith}
use Rattle.std.proofs.lemmas.Bool.{cases_Bool, cases_lt}
use Rattle.std.proofs.Math.ListN.{set}
use Rattle.std.proofs.lemmas.List.{get_or_append_left, get_or_push, get_or-set_other, get_or-set_same, length_push}
use Rattle.std.proofs.lemmas.List.Folds.{list_any_at}
use Rattle.aps_model.specs.declared.entry.Entry.{Entry}
use Rattle.aps_model.specs.declared.program.Op.{Op}
use Rattle.aps_model.specs.declared.program.Op.TheVariants.{Exit, Send}
use Rattle.aps_model.specs.declared.state.State.{State}
use Rattle.aps_model.specs.declared.state.State.TheVariants.{Running, Sending, Replying}
use Rattle.aps_model.specs.Scenario.{Scenario, op_at, thread_row}
use Rattle.aps_model.specs.SchedulerState.{SchedulerState, thread_at}
use Rattle.aps_model.specs.Usage.{names}
use Rattle.laws_runs.specs.ThreadFits.{IsThreadFit, StandsAt}
use Rattle.view_latency.specs.declared.news.News.{News}
use Rattle.view_latency.specs.declared.news.News.TheVariants.{Nothing}
use Rattle.view_latency.specs.Callers.{AreCallers, AreCallersBelow, caller_at, is_send_op, may_call}
use Rattle.view_latency.specs.Calls.{AreLongerCalls, Calls, no_calls, calls_with_entry, with_news}
use Rattle.view_latency.specs.News.{is_send, news_in, news_of, sent_by}

-- ---- the list of them

pub none_below : (scenario : Scenario) (callers : List ℕ) → callers ≡ [] → AreCallersBelow scenario 0 callers
none_below scenario callers is =
    let none : length callers ≡ 0 = ap (λ (l : List ℕ). length l) is in
    record {
      below = λ k less. absurd (omega (arith, less, none));
      may = λ k less. absurd (omega (arith, less, none));
      rising = λ j k order less. absurd (omega (arith, less, none));
      all = λ x less. absurd (omega (arith, less));
    }

-- one more is left out
pub left_out : (scenario : Scenario) (x : ℕ) (callers : List ℕ) → may_call scenario x ≡ false → AreCallersBelow scenario x callers → AreCallersBelow scenario (x + 1) callers
left_out scenario x callers is_none are = record {
  below = λ k less. let at = are.below k less in omega (arith, at);
  may = are.may;
  rising = are.rising;
  all = λ y less may. elim (cases_lt y x) [
    | inl before ↦ are.all y before may
    | inr past ↦
        let same : y ≡ x = omega (arith, less, past) in
        absurd (clash (may_call scenario y) may (ap (may_call scenario) same ∙ is_none))
  ];
}
  where
    clash : (t : Bool) → t ≡ true → t ≡ false → ⊥
    clash true is other = cc
    clash false is other = cc

-- one more is put in
pub put_in : (scenario : Scenario) (x : ℕ) (callers : List ℕ) → may_call scenario x ≡ true → AreCallersBelow scenario x callers → AreCallersBelow scenario (x + 1) (callers ++ x ∷ [])
put_in scenario x callers is_one are = record {
  below = λ k less. elim (cases_lt k n) [
    | inl inside ↦ let at = are.below k inside in let same = old k inside in omega (arith, at, same)
    | inr past ↦ let same = new k less past in omega (arith, same)
  ];
  may = λ k less. elim (cases_lt k n) [
    | inl inside ↦ ap (may_call scenario) (old k inside) ∙ are.may k inside
    | inr past ↦ ap (may_call scenario) (new k less past) ∙ is_one
  ];
  rising = λ j k order less. elim (cases_lt k n) [
    | inl inside ↦
        let at = are.rising j k order inside in
        let one = old j (omega (arith, order, inside)) in
        let two = old k inside in
        omega (arith, at, one, two)
    | inr past ↦
        let count = long in
        let within : j < n = omega (arith, order, less, count) in
        let at = are.below j within in
        let one = old j within in
        let two = new k less past in
        omega (arith, at, one, two)
  ];
  all = λ y less may. elim (cases_lt y x) [
    | inl before ↦
        let at = are.all y before may in
        let inside = at.1 in
        let count = long in
        (at.0, omega (arith, inside, count), old at.0 at.1 ∙ at.2)
    | inr past ↦
        let count = long in
        (n, omega (arith, count), get_or_push callers x 0 n refl ∙ omega (arith, less, past))
  ];
}
  where
    n : ℕ
    n = length callers

    long : length (callers ++ x ∷ []) ≡ n + 1
    long = length_push callers x

    old : (k : ℕ) → k < n → caller_at (callers ++ x ∷ []) k ≡ caller_at callers k
    old k inside = get_or_append_left callers (x ∷ []) 0 k inside

    new : (k : ℕ) → k < length (callers ++ x ∷ []) → n ≤ k → caller_at (callers ++ x ∷ []) k ≡ x
    new k less past = get_or_push callers x 0 k (let count = long in omega (arith, less, past, count))

-- ---- the others

no_send : (scenario : Scenario) (x place : ℕ) → may_call scenario x ≡ false → place < length (thread_row scenario x).program → is_send_op (op_at scenario x place) ≡ false
no_send scenario x place is_none inside = elim (cases_Bool (is_send_op (op_at scenario x place))) [
  | inl is_one ↦ absurd (clash (may_call scenario x) (list_any_at is_send_op (thread_row scenario x).program place Exit inside is_one) is_none)
  | inr other ↦ other
]
  where
    clash : (t : Bool) → t ≡ true → t ≡ false → ⊥
    clash true is other = cc
    clash false is other = cc

unsent : (op : Op) → is_send_op op ≡ false → sent_by op ≡ Nothing
unsent (Send c) is_none = absurd cc
unsent op is_none = refl

sends : (op : Op) (d : ℕ) → op ≡ Send d → is_send_op op ≡ false → ⊥
sends op d is is_none = clash (sym (ap is_send_op is) ∙ is_none)
  where
    clash : true ≡ false → ⊥
    clash same = cc

quiet_in : (scenario : Scenario) (x place : ℕ) (state : State) (e : Entry) → is_send_op (op_at scenario x place) ≡ false → ((d : ℕ) → state ≡ Sending d → op_at scenario x place ≡ Send d)
    → ((y : ℕ) → state ≡ Replying y → (d : ℕ) × (op_at scenario x place ≡ Send d)) → news_in scenario x place state e ≡ Nothing
quiet_in scenario x place (Running c) e is_none sending replying = by_test (names e.ran x && is_send e.done)
  where
    by_test : (t : Bool) → cond t (sent_by (op_at scenario x place)) Nothing ≡ Nothing
    by_test true = unsent (op_at scenario x place) is_none
    by_test false = refl
quiet_in scenario x place (Sending d) e is_none sending replying = absurd (sends (op_at scenario x place) d (sending d refl) is_none)
quiet_in scenario x place (Replying y) e is_none sending replying = let at = replying y refl in absurd (sends (op_at scenario x place) at.0 at.1 is_none)
quiet_in scenario x place state e is_none sending replying = refl

quiet : (scenario : Scenario) (rows x : ℕ) (s : SchedulerState) (e : Entry) → may_call scenario x ≡ false → IsThreadFit scenario rows x (thread_at s x) → news_of scenario s x e ≡ Nothing
quiet scenario rows x s e is_none fit =
    let thread = thread_at s x in
    quiet_in scenario x thread.place thread.state e (no_send scenario x thread.place is_none fit.place)
    (λ d is. subst (λ (st : State). StandsAt st (op_at scenario x thread.place)) is fit.stands)
    (λ y is. subst (λ (st : State). StandsAt st (op_at scenario x thread.place)) is fit.stands)

-- so the calls of anybody else stay
pub others_stay : (scenario : Scenario) (rows x : ℕ) (s : SchedulerState) (calls : Calls) (e : Entry) → may_call scenario x ≡ false → IsThreadFit scenario rows x (thread_at s x)
    → calls_with_entry scenario s x calls e ≡ calls
others_stay scenario rows x s calls e is_none fit = ap (λ (news : News). with_news calls e.to news) (quiet scenario rows x s e is_none fit)

-- ---- all of them, one after the other

-- no one stands twice among them
pub apart : (scenario : Scenario) (n : ℕ) (callers : List ℕ) (k j : ℕ) → AreCallersBelow scenario n callers → k < length callers → j < k → caller_at callers j ≢ caller_at callers k
apart scenario n callers k j are less order same = let at = are.rising j k order less in omega (arith, at, same)

-- one more has its news
pub done_more : {A : Type 0} (f : ℕ → A → A) (callers : List ℕ) (k x : ℕ) (v d : A) (start now : List A) → x ≡ caller_at callers k → x < length now
    → ((j : ℕ) → j < k → caller_at callers j ≢ x) → get_or now x d ≡ get_or start x d → v ≡ f x (get_or now x d)
    → ((j : ℕ) → j < k → get_or now (caller_at callers j) d ≡ f (caller_at callers j) (get_or start (caller_at callers j) d))
    → (j : ℕ) → j < k + 1 → get_or (set now x v) (caller_at callers j) d ≡ f (caller_at callers j) (get_or start (caller_at callers j) d)
done_more f callers k x v d start now at inside unlike same new done j less = elim (cases_lt j k) [
  | inl before ↦ get_or-set_other now x (caller_at callers j) v d (unlike j before) ∙ done j before
  | inr past ↦
      let last : j ≡ k = omega (arith, less, past) in
      let here : caller_at callers j ≡ x = ap (caller_at callers) last ∙ sym at in
      ap (λ y. get_or (set now x v) y d) here ∙ get_or-set_same now x v d inside ∙ new ∙ ap (f x) same
      ∙ sym (ap (λ y. f y (get_or start y d)) here)
]

-- and everybody else is as before
pub others_more : {A : Type 0} (callers : List ℕ) (k x : ℕ) (v d : A) (start now : List A) → x ≡ caller_at callers k
    → ((y : ℕ) → ((j : ℕ) → j < k → caller_at callers j ≢ y) → get_or now y d ≡ get_or start y d)
    → (y : ℕ) → ((j : ℕ) → j < k + 1 → caller_at callers j ≢ y) → get_or (set now x v) y d ≡ get_or start y d
others_more callers k x v d start now at others y unlike =
    get_or-set_other now x y v d (λ same. unlike k (omega arith) (sym at ∙ sym same))
    ∙ others y (λ j less. unlike j (omega (arith, less)))

-- so all calls have gone on
pub all_longer : (scenario : Scenario) (rows : ℕ) (s : SchedulerState) (e : Entry) (callers : List ℕ) (start now : List Calls) → AreCallers scenario callers → length now ≡ length start → length start ≡ length scenario.threads
    → ((x : ℕ) → x < length scenario.threads → IsThreadFit scenario rows x (thread_at s x))
    → ((j : ℕ) → j < length callers → get_or now (caller_at callers j) no_calls ≡ calls_with_entry scenario s (caller_at callers j) (get_or start (caller_at callers j) no_calls) e)
    → ((x : ℕ) → ((j : ℕ) → j < length callers → caller_at callers j ≢ x) → get_or now x no_calls ≡ get_or start x no_calls)
    → AreLongerCalls scenario s e start now
all_longer scenario rows s e callers start now are count one_each fit done others = record {
  count = count;
  each = λ x less. elim (cases_Bool (may_call scenario x)) [
    | inl is_one ↦
        let found = are.all x (omega (arith, less, one_each)) is_one in
        subst (λ y. get_or now y no_calls ≡ calls_with_entry scenario s y (get_or start y no_calls) e) found.2 (done found.0 found.1)
    | inr is_none ↦
        others x (λ j below same. clash (may_call scenario x) (ap (may_call scenario) (sym same) ∙ are.may j below) is_none)
        ∙ sym (others_stay scenario rows x s (get_or start x no_calls) e is_none (fit x (omega (arith, less, one_each))))
  ];
}
  where
    clash : (t : Bool) → t ≡ true → t ≡ false → ⊥
    clash true is other = cc
    clash false is other = cc
