use Rattle.laws_runs.proofs.Counts.{counts_law}
use Rattle.laws_runs.proofs.threads.sizes_stay.Goals as goal

pub returns : goal.returns
returns c = counts_law
