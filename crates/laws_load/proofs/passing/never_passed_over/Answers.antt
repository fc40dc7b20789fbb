use Rattle.laws_load.proofs.Moments.{never_passed}
use Rattle.laws_load.proofs.passing.never_passed_over.Goals as goal

pub returns : goal.returns
returns c = never_passed
