-- The text of an answer to demands.
use lib.Chars.{codes}
use Rattle.std.specs.Prelude.{ℕ, List, [], ◌∷◌, ◌++◌}
use Rattle.std.specs.Fmt.{decimal}
use Rattle.std.specs.List.{flat_map, sum_by}
use Rattle.aps_model.specs.Journal.{line_of}
use Rattle.aps_admit.specs.declared.admission.Granted.{Granted}
use Rattle.aps_admit.specs.declared.admission.Admission.{Admission}
use Rattle.aps_admit.specs.declared.admission.Admission.TheVariants.{Budgets, Needs}

-- who has which budget, and what it gives
abbrev pub budget_words : Granted → List ℕ
budget_words granted = codes "budget " ++ (granted.name ++ (codes " " ++ decimal granted.budget))

abbrev pub allowance_words : Granted → List ℕ
allowance_words granted =
    codes " allowance " ++ (decimal granted.allowance ++ (codes " below " ++ (decimal granted.below ++ codes "\n")))

abbrev pub budget_line : Granted → List ℕ
budget_line granted = budget_words granted ++ allowance_words granted

-- the sum of the budgets
abbrev pub budgets_granted : List Granted → ℕ
budgets_granted grants = sum_by (λ (granted : Granted). granted.budget) grants

abbrev pub sum_line : ℕ → List ℕ
sum_line sum = line_of (codes "sum" ∷ decimal sum ∷ [])

abbrev pub grants_text : List Granted → List ℕ
grants_text grants = codes "admit budgets 1\n" ++ flat_map budget_line grants ++ sum_line (budgets_granted grants)

abbrev pub needs_line : ℕ → List ℕ
needs_line sum = line_of (codes "admit" ∷ codes "needs" ∷ decimal sum ∷ [])

-- the text of an answer
abbrev pub admission_text : Admission → List ℕ
admission_text (Budgets grants) = grants_text grants
admission_text (Needs sum) = needs_line sum
