use Rattle.laws_runs.proofs.Sound.{sound}
use Rattle.laws_runs.proofs.moments.dues_lie_ahead.Goals as goal

pub returns : goal.returns
returns c = λ scenario order h r legal. (sound scenario order r h legal).timely
