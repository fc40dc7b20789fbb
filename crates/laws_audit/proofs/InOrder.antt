-- A legal history is in order: each entry is looked at as the last one of the history up to it, of which the laws of the next entry speak.
use Rattle.std.proofs.Common.{◌≡◌, ℕ, suc, ◌<◌, ◌≤◌, List, [], ◌∷◌, ◌++◌, length, take, drop, get_or, sym, ◌∙◌, ap, subst, drop-cons, inl, inr, arith}
use Rattle.std.proofs.lemmas.Bool.{cases_eq}
use Rattle.std.proofs.lemmas.List.{get_or-take, length-take-le, take-append-drop}
use Rattle.aps_model.specs.declared.entry.Entry.{Entry}
use Rattle.aps_model.specs.declared.entry.Order.{Order}
use Rattle.aps_model.specs.After.{state_after}
use Rattle.aps_model.specs.Due.{next_boundary}
use Rattle.aps_model.specs.Legal.{IsLegal}
use Rattle.aps_model.specs.Scenario.{Scenario}
use Rattle.aps_model.specs.Valid.{IsScenario}
use Rattle.laws_runs.proofs.Sound.{next_law, sound}
use Rattle.laws_runs.proofs.Words.{prefix_legal, up_to}
use Rattle.aps_core.proofs.Rising.{rising_law}
use Rattle.aps_bound.specs.Order.{IsInOrder}

-- an entry between those before it and those behind it
split_at : (h : List Entry) (k : ℕ) (d : Entry) → k < length h → h ≡ take k h ++ get_or h k d ∷ drop (suc k) h
split_at h k d inside = sym (take-append-drop k h) ∙ ap (λ rest. take k h ++ rest) (drop-cons h k d inside)

module _ (scenario : Scenario) (order : Order) (h : List Entry) (valid : IsScenario scenario) (legal : IsLegal scenario order h) where
  rising : (i j : ℕ) (d : Entry) → i ≤ j → j < length h → (get_or h i d).to ≤ (get_or h j d).to
  rising i j d le inside = elim (cases_eq i j) [
    | inl same ↦ let it = ap (λ k. (get_or h k d).to) same in omega (arith, it)
    | inr other ↦
        let count : length (take j h) ≡ j = length-take-le j h (omega (arith, inside)) in
        let before = rising_law scenario order valid h legal (take j h) (drop (suc j) h) (get_or h j d) (split_at h j d inside) i d (omega (arith, count, le, other)) in
        let there = ap (λ (e : Entry). e.to) (get_or-take j h i d (omega (arith, le, other))) in
        omega (arith, before, there)
  ]

  within : (k : ℕ) (d : Entry) → k < length h → (get_or h k d).to ≤ next_boundary scenario.shape.tick (get_or h k d).from
  within k d inside =
      let front = up_to scenario order h (take k h) (drop (suc k) h) (get_or h k d) (split_at h k d inside) legal in
      let first = prefix_legal scenario order (take k h) (get_or h k d ∷ []) front in
      let same = (sound scenario order valid (take k h) first).grounded.sizes.tick in
      subst (λ tick. (get_or h k d).to ≤ next_boundary tick (get_or h k d).from) same (next_law scenario order (take k h) (get_or h k d) valid front).short

pub in_order : (scenario : Scenario) (order : Order) (h : List Entry) → IsScenario scenario → IsLegal scenario order h → IsInOrder scenario.shape.tick h
in_order scenario order h valid legal = record { rising = rising scenario order h valid legal; within = within scenario order h valid legal }
