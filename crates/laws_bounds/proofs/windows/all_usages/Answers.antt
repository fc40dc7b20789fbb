use Rattle.laws_bounds.proofs.Times.{usages}
use Rattle.laws_bounds.proofs.windows.all_usages.Goals as goal

pub returns : goal.returns
returns c = usages
