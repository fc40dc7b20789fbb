use Rattle.laws_bounds.proofs.ServedTicks.{served_is_full}
use Rattle.laws_bounds.proofs.served.served_is_full.Goals as goal

pub returns : goal.returns
returns c = served_is_full
