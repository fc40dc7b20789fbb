use Rattle.aps_live.proofs.Bounds.{bound}
use Rattle.aps_live.proofs.laws.live_bound.Goals as goal

pub returns : goal.returns
returns c = λ scenario steps. bound scenario steps
