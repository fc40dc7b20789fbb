use Rattle.laws_runs.proofs.ChoiceLaws.{picks_law}
use Rattle.laws_runs.proofs.choices.picks_are_greatest.Goals as goal

pub returns : goal.returns
returns c = picks_law
