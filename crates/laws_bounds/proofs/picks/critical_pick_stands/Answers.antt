use Rattle.laws_bounds.proofs.Funded.{critical_pick}
use Rattle.laws_bounds.proofs.picks.critical_pick_stands.Goals as goal

pub returns : goal.returns
returns c = critical_pick
