use Rattle.std.proofs.Common.{List, [], ◌∷◌, ◌++◌, sym, subst, append_assoc}
use Rattle.std.proofs.lemmas.List.{append-nil}
use Rattle.aps_model.specs.declared.entry.Entry.{Entry}
use Rattle.aps_model.specs.declared.entry.Order.{Order}
use Rattle.laws_runs.specs.Carry.{IsCarried}
use Rattle.aps_model.specs.After.{After, after, after_from, at_start, left_by}
use Rattle.aps_model.specs.Legal.{IsLegal, LegalFrom}
use Rattle.aps_model.specs.Scenario.{Scenario}
use Rattle.aps_model.specs.Step.{step}

carried_from : (scenario : Scenario) (order : Order) (P : List Entry → After → Type 0)
    → IsCarried scenario order P
    → (a : After) (h es : List Entry) → P h a → LegalFrom scenario order a h es → P (h ++ es) (after_from scenario a h es)
carried_from scenario order P more a h [] p legal = subst (λ g. P g a) (sym (append-nil h)) p
carried_from scenario order P more a h (e ∷ es) p legal =
    let b = left_by (step scenario a.state h e.cpu) in
    let next : P (h ++ e ∷ []) b = subst (λ (x : Entry). P (h ++ x ∷ []) b) (sym legal.2) (more h a e.cpu p legal.0 legal.1) in
    subst (λ g. P g (after_from scenario b (h ++ e ∷ []) es)) (append_assoc h (e ∷ []) es)
    (carried_from scenario order P more b (h ++ e ∷ []) es next legal.3)

-- what holds at the start and is kept by each step holds of each legal history
pub carried : (scenario : Scenario) (order : Order) (P : List Entry → After → Type 0)
    → P [] (at_start scenario)
    → IsCarried scenario order P
    → (h : List Entry) → IsLegal scenario order h → P h (after scenario h)
unfolding after IsLegal
carried scenario order P base more h legal = carried_from scenario order P more (at_start scenario) [] h base legal
