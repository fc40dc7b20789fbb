-- The lives of a history, with one entry more.
use Rattle.std.proofs.Common.{◌≡◌, ℕ, List, [], ◌∷◌, ◌++◌, length, get_or, replicate, append_assoc, sym, ap, ◌∙◌, arith}
use Rattle.std.proofs.lemmas.List.{append-nil, get_or-replicate, length-replicate}
use Rattle.std.proofs.lemmas.List.Sums.{fold-append}
use Rattle.aps_model.specs.declared.entry.Entry.{Entry}
use Rattle.aps_model.specs.After.{state_after}
use Rattle.aps_model.specs.Scenario.{Scenario}
use Rattle.laws_runs.specs.Moments.{moment}
use Rattle.view_lives.specs.declared.life.Segment.{Segment}
use Rattle.view_lives.specs.Life.{AreLives, AreLonger, life_from, life_of, piece_of, with_piece}

-- a life with the piece up to where this entry ends
abbrev pub with_entry : Scenario → ℕ → List Segment → List Entry → Entry → List Segment
with_entry scenario x life h e = with_piece life (piece_of (state_after scenario h) x (moment h) e.to)

from_more : (scenario : Scenario) (x : ℕ) (life : List Segment) (before es : List Entry) (e : Entry)
    → life_from scenario x life before (es ++ e ∷ []) ≡ with_entry scenario x (life_from scenario x life before es) (before ++ es) e
from_more scenario x life before [] e = ap (λ h. with_entry scenario x life h e) (sym (append-nil before))
from_more scenario x life before (d ∷ es) e =
    let longer = with_entry scenario x life before d in
    from_more scenario x longer (before ++ d ∷ []) es e
    ∙ ap (λ h. with_entry scenario x (life_from scenario x longer (before ++ d ∷ []) es) h e) (append_assoc before (d ∷ []) es)

pub life_more : (scenario : Scenario) (h : List Entry) (e : Entry) (x : ℕ) → life_of scenario (h ++ e ∷ []) x ≡ with_entry scenario x (life_of scenario h x) h e
unfolding life_of
life_more scenario h e x = from_more scenario x [] [] h e

-- the last entry ends where they all have
pub moment_more : (h : List Entry) (e : Entry) → moment (h ++ e ∷ []) ≡ e.to
moment_more h e = fold-append (λ _ (d : Entry). d.to) 0 h (e ∷ [])

pub lives_none : (scenario : Scenario) (lives : List (List Segment)) → lives ≡ replicate (length scenario.threads) [] → AreLives scenario [] lives
unfolding life_of
lives_none scenario lives is = record {
  count = ap (λ (l : List (List Segment)). length l) is ∙ length-replicate (length scenario.threads) [];
  each = λ x less. ap (λ (l : List (List Segment)). get_or l x []) is ∙ get_or-replicate (length scenario.threads) x [] [] less;
}

pub lives_more : (scenario : Scenario) (h : List Entry) (e : Entry) (before after : List (List Segment)) → AreLives scenario h before
    → AreLonger (state_after scenario h) (moment h) e.to before after → AreLives scenario (h ++ e ∷ []) after
lives_more scenario h e before after are longer = record {
  count = longer.count ∙ are.count;
  each = λ x less.
      let count = are.count in
      longer.each x (omega (arith, count, less)) ∙ ap (λ life. with_entry scenario x life h e) (are.each x less) ∙ sym (life_more scenario h e x);
}
