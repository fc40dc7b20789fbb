use Rattle.laws_runs.proofs.Sound.{sound}
use Rattle.laws_runs.proofs.threads.one_each.Goals as goal

pub returns : goal.returns
returns c = λ scenario order h r legal. (sound scenario order r h legal).grounded.kept
