use Rattle.laws_runs.proofs.FixedRun.{run_is_one}
use Rattle.laws_runs.proofs.order.fixed_run_is_one.Goals as goal

pub returns : goal.returns
returns c = run_is_one
