use Rattle.laws_runs.proofs.RowLaws.{rows_stay}
use Rattle.laws_runs.proofs.rows.rows_stay.Goals as goal

pub returns : goal.returns
returns c = rows_stay
