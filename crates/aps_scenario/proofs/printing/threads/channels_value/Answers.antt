use Rattle.aps_scenario.specs.PrintedThreads.{channel_table}
use Rattle.aps_scenario.proofs.PrintedTable.{element-pushed, array-pushed}
use Rattle.aps_scenario.proofs.printing.threads.channels_value.Goals as goal

pub loop-name-preserved : goal.loop-name-preserved
loop-name-preserved c =
    rw c.in_ok-push.ensures.items (element-pushed channel_table c.loop-name.values.items c.in_ok-channel_value.field-0 c.args.channels.now c.loop-name.name-index c.name-item.result
    c.loop-name-test.true c.name-item.is c.loop-name.invariant c.in_ok-channel_value.ensures)

pub returns : goal.returns
returns c = array-pushed channel_table c.loop-name.values c.args.channels.now c.loop-name.name-index c.loop-name-test.false c.loop-name.invariant
