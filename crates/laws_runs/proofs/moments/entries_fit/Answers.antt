use Rattle.laws_runs.proofs.BoundaryLaws.{entries_fit}
use Rattle.laws_runs.proofs.moments.entries_fit.Goals as goal

pub returns : goal.returns
returns c = entries_fit
