use Rattle.laws_bounds.proofs.Budget.{below}
use Rattle.laws_bounds.proofs.windows.billed_below_whole.Goals as goal

pub returns : goal.returns
returns c = below
