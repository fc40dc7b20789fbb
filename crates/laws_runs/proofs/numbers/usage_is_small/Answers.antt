use Rattle.laws_runs.proofs.SmallNumbers.{usage_small}
use Rattle.laws_runs.proofs.numbers.usage_is_small.Goals as goal

pub returns : goal.returns
returns c = usage_small
