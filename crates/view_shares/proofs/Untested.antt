-- What isn't tested overspends nothing.
use Rattle.std.proofs.Common.{◌≡◌, ℕ, ◌+◌, ◌<◌, ◌≤◌, List, [], ◌∷◌, ◌++◌, length, take, drop, get_or, false, Option, Some, None, is_some, refl, sym, ap, ◌∙◌, append_assoc, arith}
use Rattle.std.specs.List.{AllByRecursion}
use Rattle.std.specs.Option.{option_map}
use Rattle.std.proofs.lemmas.List.{append-nil, get_or-drop, length-drop, take-append-drop}
use Rattle.std.proofs.lemmas.List.Elements.{recursion_from_All}
use Rattle.aps_model.specs.declared.entry.Entry.{Entry}
use Rattle.aps_model.specs.Scenario.{Scenario}
use Rattle.view_samples.specs.Pass.{no_entry}
use Rattle.view_samples.proofs.Fill.{same_read}
use Rattle.view_shares.specs.declared.spent.Spent.{Spent}
use Rattle.view_shares.specs.CriticalBudget.{AreUntestedFrom, budget_by, tested_by}
use Rattle.view_shares.specs.Spent.{AreSpent, excess_of, spent_from, spent_of, spent_with, state_tested}
use Rattle.view_shares.specs.Standing.{standing_of}
use Rattle.view_shares.proofs.Overspent.{excess_none}

-- ---- which are tested

pub none_tested : (h : List Entry) → AreUntestedFrom 0 (take 0 h)
none_tested h = λ i low less. absurd (omega (arith, less))

pub none_is : {A : Type 0} (o : Option A) → is_some o ≡ false → o ≡ None
none_is None is = refl
none_is (Some a) is = absurd cc

-- ---- nothing more is spent

from_both : (scenario : Scenario) (p : ℕ) (s : Option Spent) (before xs ys : List Entry) → spent_from scenario p s before (xs ++ ys) ≡ spent_from scenario p (spent_from scenario p s before xs) (before ++ xs) ys
from_both scenario p s before [] ys = ap (λ h. spent_from scenario p s h ys) (sym (append-nil before))
from_both scenario p s before (e ∷ xs) ys =
    let next = spent_with s e.to (excess_of scenario p before e) in
    from_both scenario p next (before ++ e ∷ []) xs ys
    ∙ ap (λ h. spent_from scenario p (spent_from scenario p next (before ++ e ∷ []) xs) h ys) (append_assoc before (e ∷ []) xs)

stays : (scenario : Scenario) (p : ℕ) (s : Option Spent) (before es : List Entry) → AllByRecursion (λ (e : Entry). tested_by e ≡ None) es → spent_from scenario p s before es ≡ s
stays scenario p s before [] all = refl
stays scenario p s before (e ∷ es) all =
    let none = excess_none scenario before e p (ap (option_map (budget_by (standing_of (state_tested scenario before e)))) all.0) in
    ap (λ o. spent_from scenario p (spent_with s e.to o) (before ++ e ∷ []) es) none ∙ stays scenario p s (before ++ e ∷ []) es all.1

rest : (h : List Entry) (n : ℕ) → n ≤ length h → AreUntestedFrom n h → AllByRecursion (λ (e : Entry). tested_by e ≡ None) (drop n h)
rest h n within none = recursion_from_All (λ (e : Entry). tested_by e ≡ None) (drop n h) each
  where
    each : (k : ℕ) (d : Entry) → k < length (drop n h) → tested_by (get_or (drop n h) k d) ≡ None
    each k d less =
        let count = length-drop n h in
        let inside : n + k < length h = omega (arith, less, count, within) in
        ap tested_by (get_or-drop n h k d ∙ same_read h (n + k) d no_entry inside) ∙ none (n + k) (omega arith) inside

pub spent_rest : (scenario : Scenario) (h : List Entry) (n : ℕ) (spent : List (Option Spent)) → n ≤ length h → AreUntestedFrom n h → AreSpent scenario (take n h) spent → AreSpent scenario h spent
unfolding spent_of
spent_rest scenario h n spent within none are = λ p less.
    are p less
    ∙ sym (stays scenario p (spent_from scenario p None [] (take n h)) (take n h) (drop n h) (rest h n within none))
    ∙ sym (from_both scenario p None [] (take n h) (drop n h))
    ∙ ap (λ (l : List Entry). spent_from scenario p None [] l) (take-append-drop n h)
