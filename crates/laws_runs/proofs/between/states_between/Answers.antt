use Rattle.laws_runs.proofs.BetweenLaw.{between}
use Rattle.laws_runs.proofs.between.states_between.Goals as goal

pub returns : goal.returns
returns c = between
