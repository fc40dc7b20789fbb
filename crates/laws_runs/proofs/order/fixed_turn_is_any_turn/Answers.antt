use Rattle.laws_runs.proofs.Turns.{any_turn}
use Rattle.laws_runs.proofs.order.fixed_turn_is_any_turn.Goals as goal

pub returns : goal.returns
returns c = any_turn
