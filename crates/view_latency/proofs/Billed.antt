-- The bills of a history, with one entry more.
use Rattle.std.proofs.Common.{◌≡◌, ℕ, ◌+◌, ◌*◌, ◌<◌, ◌≤◌, List, [], ◌∷◌, ◌++◌, length, get_or, replicate, sym, ap, ◌∙◌, subst, arith}
use Rattle.std.specs.Prelude.{slice_index}
use Rattle.std.proofs.lemmas.List.{get_or-replicate, length-replicate}
use Rattle.std.proofs.lemmas.List.Sums.{sum_by_push}
use Rattle.aps_model.specs.declared.entry.Entry.{Entry}
use Rattle.aps_model.specs.declared.usage.Usage.{Usage}
use Rattle.aps_model.specs.Limits.{longest_tick, most_partitions, most_threads}
use Rattle.aps_model.specs.Report.{length_of}
use Rattle.aps_model.specs.Sums.{IsAtMost}
use Rattle.view_latency.specs.Bills.{AreBilled, AreBills, billed_in_entry, critical_in_entry, no_bills}

-- what is at most so much is at most more
pub at_most_more : (n m : ℕ) (usage : Usage) → n ≤ m → IsAtMost n usage → IsAtMost m usage
at_most_more n m usage le most = record {
  used = λ p less. let is = most.used p less in omega (arith, is, le);
  critical = λ p less. let is = most.critical p less in omega (arith, is, le);
}

none_used : (p : ℕ) → p < most_partitions → slice_index (replicate most_partitions 0) p ≡ 0
none_used p less = get_or-replicate most_partitions p 0 0 less

none_at : (x : ℕ) → x < most_threads → get_or (replicate most_threads no_bills) x no_bills ≡ no_bills
none_at x less = get_or-replicate most_threads x no_bills no_bills less

pub bills_none : (bills : List Usage) → bills ≡ replicate most_threads no_bills → AreBills [] bills
bills_none bills is = record {
  count = ap (λ (l : List Usage). length l) is ∙ length-replicate most_threads no_bills;
  each = λ x p less below.
      ap (λ (l : List Usage). slice_index (get_or l x no_bills).used p) is
      ∙ ap (λ (u : Usage). slice_index u.used p) (none_at x less) ∙ none_used p below;
  critical = λ x p less below.
      ap (λ (l : List Usage). slice_index (get_or l x no_bills).critical p) is
      ∙ ap (λ (u : Usage). slice_index u.critical p) (none_at x less) ∙ none_used p below;
}

pub small_none : (bills : List Usage) → bills ≡ replicate most_threads no_bills → (x : ℕ) → x < most_threads → IsAtMost 0 (get_or bills x no_bills)
small_none bills is x less =
    subst (λ (u : Usage). IsAtMost 0 u) (sym (ap (λ (l : List Usage). get_or l x no_bills) is ∙ none_at x less))
    (record {
      used = λ p below. let none = none_used p below in omega (arith, none);
      critical = λ p below. let none = none_used p below in omega (arith, none);
    })

pub bills_more : (h : List Entry) (e : Entry) (before after : List Usage) → AreBills h before → AreBilled before e after → AreBills (h ++ e ∷ []) after
bills_more h e before after are billed = record {
  count = billed.count ∙ are.count;
  each = λ x p less below.
      billed.each x p less below ∙ ap (λ n. n + billed_in_entry x p e) (are.each x p less below) ∙ sym (sum_by_push (billed_in_entry x p) h e);
  critical = λ x p less below.
      billed.critical x p less below ∙ ap (λ n. n + critical_in_entry x p e) (are.critical x p less below) ∙ sym (sum_by_push (critical_in_entry x p) h e);
}

pub small_more : (i : ℕ) (e : Entry) (before after : List Usage) → length_of e ≤ longest_tick → AreBilled before e after
    → ((x : ℕ) → x < most_threads → IsAtMost (i * longest_tick) (get_or before x no_bills)) → (x : ℕ) → x < most_threads → IsAtMost ((i + 1) * longest_tick) (get_or after x no_bills)
small_more i e before after short billed small x less =
    at_most_more (i * longest_tick + length_of e) ((i + 1) * longest_tick) (get_or after x no_bills) (omega (arith, short)) (billed.small (i * longest_tick) x less (small x less))
