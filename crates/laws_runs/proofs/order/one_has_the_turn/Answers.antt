use Rattle.laws_runs.proofs.Turns.{one_turn}
use Rattle.laws_runs.proofs.order.one_has_the_turn.Goals as goal

pub returns : goal.returns
returns c = one_turn
