use Rattle.laws_runs.proofs.Windows.{walks}
use Rattle.laws_runs.proofs.billing.entries_walk.Goals as goal

pub returns : goal.returns
returns c = walks
