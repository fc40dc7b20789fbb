-- The calls of a history, with one entry more.
use Rattle.std.proofs.Common.{◌≡◌, ℕ, List, [], ◌∷◌, ◌++◌, length, get_or, replicate, append_assoc, sym, ap, ◌∙◌, arith}
use Rattle.std.proofs.lemmas.List.{append-nil, get_or-replicate, length-replicate}
use Rattle.aps_model.specs.declared.entry.Entry.{Entry}
use Rattle.aps_model.specs.After.{state_after}
use Rattle.aps_model.specs.Scenario.{Scenario}
use Rattle.view_latency.specs.Calls.{AreCalls, AreLongerCalls, Calls, calls_from, calls_of, no_calls, calls_with_entry}

from_more : (scenario : Scenario) (x : ℕ) (calls : Calls) (before es : List Entry) (e : Entry)
    → calls_from scenario x calls before (es ++ e ∷ []) ≡ calls_with_entry scenario (state_after scenario (before ++ es)) x (calls_from scenario x calls before es) e
from_more scenario x calls before [] e = ap (λ h. calls_with_entry scenario (state_after scenario h) x calls e) (sym (append-nil before))
from_more scenario x calls before (d ∷ es) e =
    let longer = calls_with_entry scenario (state_after scenario before) x calls d in
    from_more scenario x longer (before ++ d ∷ []) es e
    ∙ ap (λ h. calls_with_entry scenario (state_after scenario h) x (calls_from scenario x longer (before ++ d ∷ []) es) e) (append_assoc before (d ∷ []) es)

pub calls_more : (scenario : Scenario) (h : List Entry) (e : Entry) (x : ℕ)
    → calls_of scenario (h ++ e ∷ []) x ≡ calls_with_entry scenario (state_after scenario h) x (calls_of scenario h x) e
unfolding calls_of
calls_more scenario h e x = from_more scenario x no_calls [] h e

pub all_none : (scenario : Scenario) (calls : List Calls) → calls ≡ replicate (length scenario.threads) no_calls → AreCalls scenario [] calls
unfolding calls_of
all_none scenario calls is = record {
  count = ap (λ (l : List Calls). length l) is ∙ length-replicate (length scenario.threads) no_calls;
  each = λ x less. ap (λ (l : List Calls). get_or l x no_calls) is ∙ get_or-replicate (length scenario.threads) x no_calls no_calls less;
}

pub all_more : (scenario : Scenario) (h : List Entry) (e : Entry) (before after : List Calls) → AreCalls scenario h before
    → AreLongerCalls scenario (state_after scenario h) e before after → AreCalls scenario (h ++ e ∷ []) after
all_more scenario h e before after are longer = record {
  count = longer.count ∙ are.count;
  each = λ x less.
      let count = are.count in
      longer.each x (omega (arith, count, less)) ∙ ap (λ calls. calls_with_entry scenario (state_after scenario h) x calls e) (are.each x less)
      ∙ sym (calls_more scenario h e x);
}
