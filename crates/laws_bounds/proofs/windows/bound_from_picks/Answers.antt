use Rattle.laws_bounds.proofs.Debts.{from_picks}
use Rattle.laws_bounds.proofs.windows.bound_from_picks.Goals as goal

pub returns : goal.returns
returns c = from_picks
