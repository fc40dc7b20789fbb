use Rattle.laws_runs.proofs.BoundaryLaws.{boundaries}
use Rattle.laws_runs.proofs.moments.boundaries_met.Goals as goal

pub returns : goal.returns
returns c = boundaries
