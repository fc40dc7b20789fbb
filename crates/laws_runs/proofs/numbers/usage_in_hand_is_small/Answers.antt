use Rattle.laws_runs.proofs.SmallNumbers.{usage_in_hand}
use Rattle.laws_runs.proofs.numbers.usage_in_hand_is_small.Goals as goal

pub returns : goal.returns
returns c = usage_in_hand
