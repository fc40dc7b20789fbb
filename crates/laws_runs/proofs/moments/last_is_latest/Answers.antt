use Rattle.laws_runs.proofs.BoundaryLaws.{latest}
use Rattle.laws_runs.proofs.moments.last_is_latest.Goals as goal

pub returns : goal.returns
returns c = latest
