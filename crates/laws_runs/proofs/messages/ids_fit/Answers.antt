use Rattle.laws_runs.proofs.IdsLaw.{in_range}
use Rattle.laws_runs.proofs.messages.ids_fit.Goals as goal

pub returns : goal.returns
returns c = in_range
