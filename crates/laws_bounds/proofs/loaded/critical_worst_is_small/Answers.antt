use Rattle.laws_bounds.proofs.Audited.{critical_small}
use Rattle.laws_bounds.proofs.loaded.critical_worst_is_small.Goals as goal

pub returns : goal.returns
returns c = critical_small
