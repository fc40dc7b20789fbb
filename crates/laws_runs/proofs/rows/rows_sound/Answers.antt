use Rattle.laws_runs.proofs.RowLaws.{in_order, in_range}
use Rattle.laws_runs.proofs.rows.rows_sound.Goals as goal

pub returns-clause-in_order : goal.returns-clause-in_order
returns-clause-in_order c = in_order

pub returns-clause-in_range : goal.returns-clause-in_range
returns-clause-in_range c = in_range
