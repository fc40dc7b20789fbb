use Rattle.laws_runs.proofs.Sound.{next_law}
use Rattle.laws_runs.proofs.moments.moments_rise.Goals as goal

pub returns : goal.returns
returns c = next_law
