-- Entries in order of ticks, one entry more at a time.
use Rattle.std.proofs.Common.{◌≡◌, ℕ, ◌+◌, ◌<◌, ◌≤◌, List, length, get_or, sym, ◌∙◌, ap, inl, inr, arith}
use Rattle.std.specs.List.{AllWithin}
use Rattle.std.specs.List.Sorted.{IsNonDecreasingBy}
use Rattle.std.proofs.lemmas.Bool.{cases_eq}
use Rattle.std.proofs.lemmas.List.{get_or_read}
use Rattle.std.proofs.lemmas.List.Elements.{AllWithin-more, at_read}
use Rattle.aps_model.specs.declared.entry.Entry.{Entry}
use Rattle.aps_model.specs.Due.{next_boundary}
use Rattle.aps_bound.specs.Order.{IsInOrder}

-- none of the first n ends before an earlier one
abbrev pub IsRisingTo : List Entry → ℕ → Type 0
IsRisingTo h n = (i j : ℕ) (d : Entry) → i ≤ j → j < n → (get_or h i d).to ≤ (get_or h j d).to

-- the first n are in order and end by the last end, before which none of the others may end
pub record IsOrderedTo (tick : ℕ) (h : List Entry) (n last : ℕ) : Type 0 where
  pub rising : IsRisingTo h n
  pub within : AllWithin (λ (e : Entry). e.to ≤ next_boundary tick e.from) h 0 n
  pub ended : AllWithin (λ (e : Entry). e.to ≤ last) h 0 n
  pub least : IsInOrder tick h → AllWithin (λ (e : Entry). last ≤ e.to) h n (length h)

rising_more : (h : List Entry) (n : ℕ) (e : Entry) → n < length h → e ≡ get_or h n e → IsRisingTo h n → AllWithin (λ (d : Entry). d.to ≤ e.to) h 0 n → IsRisingTo h (n + 1)
rising_more h n e inside is rising ended = λ i j d le below. elim (cases_eq j n) [
  | inr ne ↦ rising i j d le (omega arith)
  | inl last ↦
      let here : e.to ≡ (get_or h j d).to = ap (λ (x : Entry). x.to) (get_or_read h n e inside is d ∙ ap (λ k. get_or h k d) (sym last)) in
      elim (cases_eq i j) [
        | inl same ↦ let it : (get_or h i d).to ≡ (get_or h j d).to = ap (λ k. (get_or h k d).to) same in omega arith
        | inr other ↦ let before : (get_or h i d).to ≤ e.to = ended i d (omega arith) (omega arith) in omega arith
      ]
]

-- in order, none that follows an entry ends before it
least_more : (h : List Entry) (n : ℕ) (e : Entry) → n < length h → e ≡ get_or h n e → IsNonDecreasingBy (λ (d : Entry). d.to) h → AllWithin (λ (d : Entry). e.to ≤ d.to) h (n + 1) (length h)
least_more h n e inside is rising = λ k d from below.
    let here : e.to ≡ (get_or h n d).to = ap (λ (x : Entry). x.to) (get_or_read h n e inside is d) in
    let later = rising n k d (omega arith) below in
    omega arith

-- with one entry more
pub ordered_more : (tick : ℕ) (h : List Entry) (n last : ℕ) (e : Entry) → n < length h → e ≡ get_or h n e → (last ≤ e.to) × (e.to ≤ next_boundary tick e.from) → IsOrderedTo tick h n last
    → IsOrderedTo tick h (n + 1) e.to
ordered_more tick h n last e inside is follows ordered = record {
  rising = rising_more h n e inside is ordered.rising ended;
  within =
      AllWithin-more (λ (d : Entry). d.to ≤ next_boundary tick d.from) h 0 n ordered.within
      (at_read h (λ (d : Entry). d.to ≤ next_boundary tick d.from) n e inside is follows.1);
  ended = AllWithin-more (λ (d : Entry). d.to ≤ e.to) h 0 n ended (at_read h (λ (d : Entry). d.to ≤ e.to) n e inside is (omega arith));
  least = λ order. least_more h n e inside is order.rising;
}
  where
    ended : AllWithin (λ (d : Entry). d.to ≤ e.to) h 0 n
    ended = λ k d from below. let past = ordered.ended k d from below in omega (arith, past, follows.0)
