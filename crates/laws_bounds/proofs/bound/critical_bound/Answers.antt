use Rattle.laws_bounds.proofs.BoundLaws.{critical_bound}
use Rattle.laws_bounds.proofs.bound.critical_bound.Goals as goal

pub returns : goal.returns
returns c = critical_bound
