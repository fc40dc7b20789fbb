use Rattle.laws_admit.proofs.LowerLine.{in_order}
use Rattle.laws_admit.proofs.needs.rows_in_order_are_granted.Goals as goal

pub returns : goal.returns
returns c = in_order
