use Rattle.laws_runs.proofs.Counts.{none_shared}
use Rattle.laws_runs.proofs.Sound.{sound}
use Rattle.aps_model.specs.After.{state_after}
use Rattle.laws_runs.proofs.threads.none_shared.Goals as goal

pub returns : goal.returns
returns c = λ scenario order h r legal. none_shared (state_after scenario h) (sound scenario order r h legal).grounded.kept
