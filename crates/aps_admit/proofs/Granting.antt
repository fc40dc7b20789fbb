-- The answer to demands, by computing and in words.
use Rattle.std.proofs.Common.{◌≡◌, ℕ, ◌+◌, ◌<◌, ◌≤◌, List, [], ◌∷◌, length, map, refl, arith, sym, subst, ◌∙◌}
use Rattle.std.specs.List.{sum_by, AllZip}
use Rattle.std.proofs.lemmas.List.Folds.{fold-map}
use Rattle.std.proofs.lemmas.List.Sums.{sum-map}
use Rattle.aps_model.specs.declared.demand.Demand.{Demand}
use Rattle.aps_model.specs.declared.shape.Shape.{Shape}
use Rattle.aps_model.specs.Shape.{IsShape}
use Rattle.aps_admit.specs.declared.admission.Granted.{Granted}
use Rattle.aps_admit.specs.Admission.{AreGrants, IsExcess, IsGrant, budget_for, granted}
use Rattle.aps_admit.specs.Least.{IsLeastBudget, least_budget}
use Rattle.aps_admit.proofs.LeastBudgets.{least_budget-least, least-below}

each_least : (shape : Shape) (slack : ℕ) (demands : List Demand) → IsShape shape
    → AllZip (λ (demand : Demand) budget. IsLeastBudget shape (demand.need + slack) budget) demands (map (budget_for shape slack) demands)
each_least shape slack [] is = tt
each_least shape slack (demand ∷ demands) is = (least_budget-least shape (demand.need + slack) is, each_least shape slack demands is)

each_grant : (shape : Shape) (slack : ℕ) (demands : List Demand) → IsShape shape → 0 < slack
    → AllZip (IsGrant shape slack) demands (map (granted shape slack) demands)
each_grant shape slack [] is some = tt
each_grant shape slack (demand ∷ demands) is some =
    let time = demand.need + slack in
    let least = least_budget-least shape time is in
    let here : IsGrant shape slack demand (granted shape slack demand) = record {
      name = refl;
      gives = refl;
      gives_less = refl;
      enough = least.enough;
      least = least-below shape time (least_budget shape time) is (omega arith) least;
    } in
    (here, each_grant shape slack demands is some)

sum_of-granted : (shape : Shape) (slack : ℕ) (demands : List Demand)
    → sum_by (λ (g : Granted). g.budget) (map (granted shape slack) demands) ≡ sum_by (budget_for shape slack) demands
sum_of-granted shape slack demands = fold-map (λ total (g : Granted). total + g.budget) (granted shape slack) 0 demands

-- budgets that fit together, of a slack that has two names
pub budgets-meet : (shape : Shape) (slack all : ℕ) (demands : List Demand) (grants : List Granted) → IsShape shape
    → slack ≡ all → (0 < length demands → 0 < slack) → grants ≡ map (granted shape slack) demands
    → sum_by (budget_for shape slack) demands ≤ shape.parts → AreGrants shape all demands grants
budgets-meet shape slack all demands grants is same some are fits =
    subst (λ n. AreGrants shape n demands grants) same (subst (AreGrants shape slack demands) (sym are) (record {
      each = each_of demands some;
      within = rw (sum_of-granted shape slack demands) fits;
    }))
  where
    each_of : (demands : List Demand) → (0 < length demands → 0 < slack) → AllZip (IsGrant shape slack) demands (map (granted shape slack) demands)
    each_of [] some = tt
    each_of (demand ∷ demands) some = each_grant shape slack (demand ∷ demands) is (some (omega arith))

-- budgets that don't
pub needs-exceed : (shape : Shape) (slack all : ℕ) (demands : List Demand) (sum : ℕ) → IsShape shape
    → slack ≡ all → sum ≡ sum_by (budget_for shape slack) demands → shape.parts < sum → IsExcess shape all demands sum
needs-exceed shape slack all demands sum is same total over =
    subst (λ n. IsExcess shape n demands sum) same (record {
      budgets = map (budget_for shape slack) demands;
      each = each_least shape slack demands is;
      total = total ∙ sym (sum-map (budget_for shape slack) demands);
      over = over;
    })
