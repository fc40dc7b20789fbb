use Rattle.laws_runs.proofs.Words.{tiled}
use Rattle.laws_runs.proofs.billing.legal_is_tiled.Goals as goal

pub returns : goal.returns
returns c = tiled
