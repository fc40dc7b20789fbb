use Rattle.laws_runs.proofs.HeldRows.{held, rows_held}
use Rattle.laws_runs.proofs.rows.rows_hold.Goals as goal

pub returns-clause-entries : goal.returns-clause-entries
returns-clause-entries c = rows_held

pub returns-clause-last : goal.returns-clause-last
returns-clause-last c = held
