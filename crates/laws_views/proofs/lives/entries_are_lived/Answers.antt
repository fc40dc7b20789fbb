use Rattle.laws_views.proofs.KeptRuns.{runs_as_billed}
use Rattle.laws_views.proofs.lives.entries_are_lived.Goals as goal

pub returns : goal.returns
returns c = λ scenario order h before later e x valid legal same ran. runs_as_billed scenario order h valid legal before later e x same ran
