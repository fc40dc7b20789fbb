use Rattle.laws_runs.proofs.ChangeLaws.{in_ticks}
use Rattle.laws_runs.proofs.rows.changes_in_ticks.Goals as goal

pub returns : goal.returns
returns c = in_ticks
