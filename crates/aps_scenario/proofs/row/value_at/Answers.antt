use Rattle.aps_scenario.proofs.Tables.{found_some, found_none}
use Rattle.aps_scenario.proofs.row.value_at.Goals as goal

pub returns-clause-some : goal.returns-clause-some
returns-clause-some c = rw (← c.text.ensures.is) (found_some c.get.result _ c.args.table.now.entries c.get.ensures.value)

pub returns-clause-none : goal.returns-clause-none
returns-clause-none c = rw (← c.text.ensures.is) (found_none c.get.result _ c.args.table.now.entries c.get.ensures.value)
