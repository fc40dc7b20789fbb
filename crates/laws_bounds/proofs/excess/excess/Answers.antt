use Rattle.laws_bounds.proofs.Below.{excess}
use Rattle.laws_bounds.proofs.excess.excess.Goals as goal

pub returns : goal.returns
returns c = excess
