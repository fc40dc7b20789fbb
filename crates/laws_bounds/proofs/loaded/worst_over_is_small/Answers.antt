use Rattle.laws_bounds.proofs.Audited.{over_small}
use Rattle.laws_bounds.proofs.loaded.worst_over_is_small.Goals as goal

pub returns : goal.returns
returns c = over_small
