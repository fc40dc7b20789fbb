use Rattle.laws_admit.proofs.LowerLine.{met}
use Rattle.laws_admit.proofs.needs.needs_are_met.Goals as goal

pub returns : goal.returns
returns c = met
