use Rattle.aps_scenario.proofs.Tables.{found_some}
use Rattle.aps_hints.proofs.blame.value_of.Goals as goal

pub returns : goal.returns
returns c = found_some c.get.result _ c.args.table.now.entries c.get.ensures.value
