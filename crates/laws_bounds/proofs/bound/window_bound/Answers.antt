use Rattle.laws_bounds.proofs.BoundLaws.{window_bound}
use Rattle.laws_bounds.proofs.bound.window_bound.Goals as goal

pub returns : goal.returns
returns c = window_bound
