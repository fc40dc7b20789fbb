use Rattle.laws_runs.proofs.SleepLaw.{sleep_law}
use Rattle.laws_runs.proofs.threads.sleepers_wake.Goals as goal

pub returns : goal.returns
returns c = sleep_law
