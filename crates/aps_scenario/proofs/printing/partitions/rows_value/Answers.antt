use Rattle.aps_scenario.specs.PrintedPartitions.{partition_table}
use Rattle.aps_scenario.proofs.PrintedTable.{element-pushed, array-pushed}
use Rattle.aps_scenario.proofs.printing.partitions.rows_value.Goals as goal

pub loop-row-preserved : goal.loop-row-preserved
loop-row-preserved c =
    rw c.in_ok-push.ensures.items (element-pushed (partition_table c.args.rows.now) c.loop-row.values.items c.in_ok-partition_value.field-0 c.args.listed.now c.loop-row.row-index c.row-item.result
    c.loop-row-test.true c.row-item.is c.loop-row.invariant c.in_ok-partition_value.ensures)

pub returns : goal.returns
returns c = array-pushed (partition_table c.args.rows.now) c.loop-row.values c.args.listed.now c.loop-row.row-index c.loop-row-test.false c.loop-row.invariant
