use Rattle.laws_bounds.proofs.Funded.{steady_pick}
use Rattle.laws_bounds.proofs.picks.steady_pick.Goals as goal

pub returns : goal.returns
returns c = steady_pick
