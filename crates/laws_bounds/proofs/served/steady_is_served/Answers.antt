use Rattle.laws_bounds.proofs.ServedTicks.{steady_is_served}
use Rattle.laws_bounds.proofs.served.steady_is_served.Goals as goal

pub returns : goal.returns
returns c = steady_is_served
