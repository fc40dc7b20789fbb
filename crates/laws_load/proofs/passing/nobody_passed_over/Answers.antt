use Rattle.laws_load.proofs.Passed.{passed}
use Rattle.laws_load.proofs.passing.nobody_passed_over.Goals as goal

pub returns : goal.returns
returns c = passed
