-- What is answered to demands.
use Rattle.std.specs.Prelude.{◌≡◌, ℕ, ◌+◌, ◌-◌, ◌<◌, ◌≤◌, nat_le, List, length, map, if◌then◌else◌}
use Rattle.std.specs.List.{sum as list_sum, sum_by, AllZip}
use Rattle.aps_model.specs.declared.demand.Demand.{Demand}
use Rattle.aps_model.specs.declared.shape.Shape.{Shape}
use Rattle.aps_admit.specs.declared.admission.Granted.{Granted}
use Rattle.aps_admit.specs.declared.admission.Admission.{Admission}
use Rattle.aps_admit.specs.declared.admission.Admission.TheVariants.{Budgets, Needs}
use Rattle.aps_admit.specs.Least.{IsLeastBudget, allowance, least_budget, total_slack}
use Rattle.aps_model.specs.Limits.{most_critical}

-- a need is at most all time of the longest window on all processors
abbrev pub IsNeed : Demand → Type 0
IsNeed demand = demand.need ≤ most_critical

-- ---- the answer, by computing

-- what a demand takes: the least budget that gives its need and this slack
abbrev pub budget_for : Shape → ℕ → Demand → ℕ
budget_for shape slack demand = least_budget shape (demand.need + slack)

-- the budget of a demand, with its allowance and that of one part less
abbrev pub granted : Shape → ℕ → Demand → Granted
granted shape slack demand = record {
  name = demand.name;
  budget = budget_for shape slack demand;
  allowance = allowance shape (budget_for shape slack demand);
  below = allowance shape (budget_for shape slack demand - 1);
}

-- the budgets, or their sum where there aren't so many parts
abbrev pub admission_with : Shape → ℕ → List Demand → Admission
admission_with shape slack demands =
    if nat_le (sum_by (budget_for shape slack) demands) shape.parts then Budgets (map (granted shape slack) demands)
    else Needs (sum_by (budget_for shape slack) demands)

abbrev pub admission : Shape → List Demand → Admission
admission shape demands = admission_with shape (total_slack shape (length demands)) demands

-- ---- the answer, in words

-- a budget for the demand by its name, with the certificate that it is the least one: its allowance is enough, and
-- that of one part less isn't
pub record IsGrant (shape : Shape) (slack : ℕ) (demand : Demand) (granted : Granted) : Type 0 where
  pub name : granted.name ≡ demand.name
  pub gives : granted.allowance ≡ allowance shape granted.budget
  pub gives_less : granted.below ≡ allowance shape (granted.budget - 1)
  pub enough : demand.need + slack ≤ granted.allowance
  pub least : granted.below < demand.need + slack

-- a budget for each demand, in order, and together at most all parts
pub record AreGrants (shape : Shape) (slack : ℕ) (demands : List Demand) (grants : List Granted) : Type 0 where
  pub each : AllZip (IsGrant shape slack) demands grants
  pub within : sum_by (λ (granted : Granted). granted.budget) grants ≤ shape.parts

-- the sum of the least budgets, which is more than all parts
pub record IsExcess (shape : Shape) (slack : ℕ) (demands : List Demand) (sum : ℕ) : Type 0 where
  pub budgets : List ℕ
  pub each : AllZip (λ (demand : Demand) budget. IsLeastBudget shape (demand.need + slack) budget) demands budgets
  pub total : sum ≡ list_sum budgets
  pub over : shape.parts < sum

abbrev pub MeetsWith : Shape → ℕ → List Demand → Admission → Type 0
MeetsWith shape slack demands (Budgets grants) = AreGrants shape slack demands grants
MeetsWith shape slack demands (Needs sum) = IsExcess shape slack demands sum

-- the answer fits the demands, with the slack of all of them
abbrev pub Meets : Shape → List Demand → Admission → Type 0
Meets shape demands answer = MeetsWith shape (total_slack shape (length demands)) demands answer
