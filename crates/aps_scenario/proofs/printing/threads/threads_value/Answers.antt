use Rattle.std.proofs.Common.{◌∙◌, ap}
use Rattle.aps_scenario.specs.PrintedTable.{array_of_each}
use Rattle.aps_scenario.specs.PrintedThreads.{thread_table}
use Rattle.aps_scenario.proofs.PrintedTable.{element-pushed, array-pushed}
use Rattle.aps_scenario.proofs.printing.threads.threads_value.Goals as goal

pub loop-row-preserved : goal.loop-row-preserved
loop-row-preserved c =
    let shown = thread_table c.args.scenario.now.partitions c.args.scenario.now.channels in
    rw c.in_ok-push.ensures.items (element-pushed shown c.loop-row.values.items c.in_ok-thread_value.field-0 c.threads-threads.result.now c.loop-row.row-index c.row-item.result
    c.loop-row-test.true c.row-item.is c.loop-row.invariant c.in_ok-thread_value.ensures)

pub returns : goal.returns
returns c =
    let shown = thread_table c.args.scenario.now.partitions c.args.scenario.now.channels in
    array-pushed shown c.loop-row.values c.threads-threads.result.now c.loop-row.row-index c.loop-row-test.false c.loop-row.invariant
    ∙ ap (array_of_each shown) c.threads-threads.ensures.same
