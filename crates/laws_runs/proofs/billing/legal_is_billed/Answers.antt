use Rattle.laws_runs.proofs.Words.{billed_as_inherited}
use Rattle.laws_runs.proofs.billing.legal_is_billed.Goals as goal

pub returns : goal.returns
returns c = billed_as_inherited
