use Rattle.laws_runs.proofs.Sound.{pick_law}
use Rattle.laws_runs.proofs.billing.kept_as_inherited.Goals as goal

pub returns : goal.returns
returns c = pick_law
