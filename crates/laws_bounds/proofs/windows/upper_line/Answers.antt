use Rattle.laws_bounds.proofs.Upper.{upper}
use Rattle.laws_bounds.proofs.windows.upper_line.Goals as goal

pub returns : goal.returns
returns c = upper
