use Rattle.std.proofs.Common.{arith, sym}
use Rattle.view_texts.proofs.Told.{told_item, told_line}
use Rattle.view_trace_events.specs.Instants.{overspent_event}
use Rattle.view_trace_events.proofs.instants.write_overspent.Goals as goal

pub loop-one-preserved : goal.loop-one-preserved
loop-one-preserved g c = record {
  told = told_line overspent_event _ _ _ _ _ _ c.args.overspent.now c.loop-one.one-index c.one-item.result c.loop-one-test.true (sym c.one-item.is) c.loop-one.invariant.told
      (told_item _ _ _ _ _ _ c.in_ok-add_overspent.ensures c.in_ok-make_room.ensures.told);
  later = omega arith;
}
