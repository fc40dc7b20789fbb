use Rattle.laws_runs.proofs.Servers.{runs_free}
use Rattle.laws_runs.proofs.Sound.{sound}
use Rattle.aps_model.specs.After.{state_after}
use Rattle.laws_runs.proofs.messages.runners_are_free.Goals as goal

pub returns : goal.returns
returns c = λ scenario order h x k r legal run. runs_free (state_after scenario h) x k (sound scenario order r h legal).grounded.plain.waiting run
