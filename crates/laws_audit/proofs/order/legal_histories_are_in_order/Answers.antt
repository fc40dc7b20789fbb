use Rattle.laws_audit.proofs.InOrder.{in_order}
use Rattle.laws_audit.proofs.order.legal_histories_are_in_order.Goals as goal

pub returns : goal.returns
returns c = in_order
