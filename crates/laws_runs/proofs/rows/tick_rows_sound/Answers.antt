use Rattle.laws_runs.proofs.HeldRows.{tick_in_order, tick_kept}
use Rattle.laws_runs.proofs.rows.tick_rows_sound.Goals as goal

pub returns-clause-in_order : goal.returns-clause-in_order
returns-clause-in_order c = tick_in_order

pub returns-clause-stay : goal.returns-clause-stay
returns-clause-stay c = tick_kept
