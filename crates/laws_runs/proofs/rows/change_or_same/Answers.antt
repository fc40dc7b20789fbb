use Rattle.laws_runs.proofs.StepGrown.{change_or_same}
use Rattle.laws_runs.proofs.rows.change_or_same.Goals as goal

pub returns : goal.returns
returns c = change_or_same
