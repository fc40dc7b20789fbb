use Rattle.laws_bounds.proofs.Budget.{others}
use Rattle.laws_bounds.proofs.windows.lower_line.Goals as goal

pub returns : goal.returns
returns c = others
