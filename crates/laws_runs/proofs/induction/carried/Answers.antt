use Rattle.std.proofs.Common.{◌≡◌, true}
use Rattle.laws_runs.proofs.Carry.{carried}
use Rattle.laws_runs.proofs.induction.carried.Goals as goal

pub returns : goal.returns
returns c = λ scenario order P. carried scenario order (λ h a. P h a ≡ true)
