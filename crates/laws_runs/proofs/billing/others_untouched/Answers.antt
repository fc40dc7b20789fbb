use Rattle.laws_runs.proofs.Sound.{step_law}
use Rattle.laws_runs.proofs.billing.others_untouched.Goals as goal

pub returns : goal.returns
returns c = step_law
