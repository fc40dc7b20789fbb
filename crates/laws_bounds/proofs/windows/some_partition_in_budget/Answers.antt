use Rattle.laws_bounds.proofs.Budget.{in_budget}
use Rattle.laws_bounds.proofs.windows.some_partition_in_budget.Goals as goal

pub returns : goal.returns
returns c = in_budget
