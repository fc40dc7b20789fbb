use Rattle.laws_bounds.proofs.Upper.{upper_none}
use Rattle.laws_bounds.proofs.windows.upper_line_none.Goals as goal

pub returns : goal.returns
returns c = upper_none
