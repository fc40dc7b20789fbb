-- Legal histories entry by entry.
use Rattle.std.proofs.Common.{◌≡◌, ℕ, ◌≤◌, List, [], ◌∷◌, ◌++◌, ap, subst}
use Rattle.std.specs.List.{AllByRecursion}
use Rattle.std.proofs.lemmas.List.Elements.{recursion_from_All}
use Rattle.aps_model.specs.declared.entry.Entry.{Entry}
use Rattle.aps_model.specs.declared.entry.Order.{Order}
use Rattle.aps_model.specs.After.{After, state_after}
use Rattle.aps_model.specs.Legal.{IsLegal}
use Rattle.aps_model.specs.Scenario.{Scenario}
use Rattle.aps_model.specs.Step.{step}
use Rattle.aps_model.specs.Valid.{IsScenario}
use Rattle.laws_runs.specs.Moments.{moment}
use Rattle.laws_runs.proofs.BoundaryLaws as boundary
use Rattle.laws_runs.proofs.MomentLaws.{moment-append}
use Rattle.aps_model.proofs.AfterLaws.{after-append}

-- the state after one entry more
pub state-append : (scenario : Scenario) (h : List Entry) (e : Entry) → state_after scenario (h ++ e ∷ []) ≡ (step scenario (state_after scenario h) h e.cpu).state
state-append scenario h e = ap (λ (a : After). a.state) (after-append scenario h e)

-- no entry ends later
abbrev pub AllBefore : ℕ → List Entry → Type 0
AllBefore moment h = AllByRecursion (λ (e : Entry). e.to ≤ moment) h

-- no entry ends after the last one
pub latest : (scenario : Scenario) (order : Order) → IsScenario scenario → (h : List Entry) (e : Entry) → IsLegal scenario order (h ++ e ∷ []) → AllBefore e.to (h ++ e ∷ [])
latest scenario order r h e legal =
    subst (λ m. AllBefore m (h ++ e ∷ [])) (moment-append h e)
    (recursion_from_All (λ (x : Entry). x.to ≤ moment (h ++ e ∷ [])) (h ++ e ∷ []) (boundary.latest scenario order (h ++ e ∷ []) r legal))
