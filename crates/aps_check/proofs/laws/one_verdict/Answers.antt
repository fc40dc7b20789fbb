use Rattle.aps_check.proofs.Verdicts.{verdict_is_one}
use Rattle.aps_check.proofs.laws.one_verdict.Goals as goal

pub returns : goal.returns
returns c = verdict_is_one
