use Rattle.laws_runs.proofs.EnoughThreads.{enough_law}
use Rattle.laws_runs.proofs.starving.enough_threads.Goals as goal

pub returns : goal.returns
returns c = enough_law
