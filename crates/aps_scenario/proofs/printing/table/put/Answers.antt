use Rattle.aps_scenario.proofs.PrintedTable.{members_view-insert}
use Rattle.aps_scenario.proofs.printing.table.put.Goals as goal

pub returns : goal.returns
returns c =
    rw (c.in_ok-insert.ensures.entries, ← c.text.ensures.is, ← c.in_ok-name.ensures.ok) (members_view-insert c.args.table.now.entries c.in_ok-name.name c.args.value)
