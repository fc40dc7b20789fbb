use Rattle.laws_runs.proofs.SmallNumbers.{windows_small}
use Rattle.laws_runs.proofs.numbers.windows_are_whole.Goals as goal

pub returns : goal.returns
returns c = windows_small
