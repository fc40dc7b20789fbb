use Rattle.laws_admit.proofs.LowerLine.{met_by_rows}
use Rattle.laws_admit.proofs.needs.needs_are_met_by_rows.Goals as goal

pub returns : goal.returns
returns c = met_by_rows
