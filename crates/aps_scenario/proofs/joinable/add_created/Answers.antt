use Rattle.std.proofs.Common.{length, ap, arith}
use Rattle.aps_scenario.proofs.Created.{created-next, created-ends}
use Rattle.aps_scenario.proofs.joinable.add_created.Goals as goal

pub loop-value-preserved : goal.loop-value-preserved
loop-value-preserved c =
    rw (c.in_ok-add_name.ensures, c.created_name.ensures)
    (created-next c.loop-value.names.items _ c.args.commands.now.items c.deref-value-items.result.now c.loop-value.value-index c.value-item.result
    c.deref-value-items.ensures.value c.loop-value-test.true c.value-item.is c.loop-value.invariant)

pub returns : goal.returns
returns c =
    let same = ap length c.deref-value-items.ensures.value in
    created-ends c.loop-value.names.items _ c.args.commands.now.items c.loop-value.value-index (omega arith) c.loop-value.invariant
