use Rattle.std.proofs.Common.{List, ◌∙◌, ap}
use Rattle.aps_model.specs.declared.scenario.ThreadRow.{ThreadRow}
use Rattle.aps_scenario.specs.PrintedTable.{array_of_each}
use Rattle.aps_scenario.specs.PrintedCommands.{command_table}
use Rattle.aps_scenario.proofs.PrintedTable.{element-pushed, array-pushed}
use Rattle.aps_scenario.proofs.printing.commands.commands_value.Goals as goal

pub loop-row-preserved : goal.loop-row-preserved
loop-row-preserved c =
    let shown = command_table c.threads-threads.result.now in
    rw c.in_ok-push.ensures.items (element-pushed shown c.loop-row.values.items c.in_ok-command_value.field-0 c.commands-commands.result.now c.loop-row.row-index c.row-item.result
    c.loop-row-test.true c.row-item.is c.loop-row.invariant c.in_ok-command_value.ensures)

pub returns : goal.returns
returns c =
    array-pushed (command_table c.threads-threads.result.now) c.loop-row.values c.commands-commands.result.now c.loop-row.row-index c.loop-row-test.false c.loop-row.invariant
    ∙ ap (array_of_each (command_table c.threads-threads.result.now)) c.commands-commands.ensures.same
    ∙ ap (λ (threads : List ThreadRow). array_of_each (command_table threads) c.args.scenario.now.commands) c.threads-threads.ensures.same
