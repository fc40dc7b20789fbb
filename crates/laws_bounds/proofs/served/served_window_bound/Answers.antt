use Rattle.laws_bounds.proofs.ServedTicks.{served_window_bound}
use Rattle.laws_bounds.proofs.served.served_window_bound.Goals as goal

pub returns : goal.returns
returns c = served_window_bound
