use Rattle.view_value_changes.proofs.Codes.{codes_differ}
use Rattle.view_value_changes.proofs.laws.codes_differ.Goals as goal

pub returns : goal.returns
returns c = codes_differ
