use Rattle.std.proofs.Common.{◌∙◌, ap}
use Rattle.toml.specs.Data.{string}
use Rattle.toml.proofs.Views.{view-String}
use Rattle.aps_model.specs.declared.program.Op.{Op}
use Rattle.aps_scenario.specs.PrintedOperation.{operation_text}
use Rattle.aps_scenario.proofs.PrintedTable.{element-pushed, array-pushed}
use Rattle.aps_scenario.proofs.printing.operations.program_value.Goals as goal

pub loop-op-preserved : goal.loop-op-preserved
loop-op-preserved c =
    rw c.in_ok-push.ensures.items (element-pushed (λ (op : Op). string (operation_text c.args.channels.now op)) c.loop-op.values.items _ c.args.ops.now c.loop-op.op-index c.op-item.result
    c.loop-op-test.true c.op-item.is c.loop-op.invariant (view-String c.in_ok-operation_text.field-0 ∙ ap string c.in_ok-operation_text.ensures))

pub returns : goal.returns
returns c =
    array-pushed (λ (op : Op). string (operation_text c.args.channels.now op)) c.loop-op.values c.args.ops.now c.loop-op.op-index c.loop-op-test.false c.loop-op.invariant
