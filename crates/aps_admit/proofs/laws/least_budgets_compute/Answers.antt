use Rattle.aps_admit.proofs.LeastBudgets.{least_budget-least, least-told}
use Rattle.aps_admit.proofs.laws.least_budgets_compute.Goals as goal

pub returns-clause-least : goal.returns-clause-least
returns-clause-least c = least_budget-least

pub returns-clause-told : goal.returns-clause-told
returns-clause-told c = least-told
