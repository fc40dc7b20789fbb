use Rattle.laws_runs.proofs.Turns.{any_order}
use Rattle.laws_runs.proofs.order.fixed_is_legal_in_any_order.Goals as goal

pub returns : goal.returns
returns c = any_order
