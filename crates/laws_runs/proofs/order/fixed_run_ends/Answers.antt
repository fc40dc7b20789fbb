use Rattle.laws_runs.proofs.FixedRun.{run_ends}
use Rattle.laws_runs.proofs.order.fixed_run_ends.Goals as goal

pub returns : goal.returns
returns c = run_ends
