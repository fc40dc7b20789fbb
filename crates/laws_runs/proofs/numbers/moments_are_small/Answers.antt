use Rattle.laws_runs.proofs.SmallNumbers.{moments_small}
use Rattle.laws_runs.proofs.numbers.moments_are_small.Goals as goal

pub returns : goal.returns
returns c = moments_small
