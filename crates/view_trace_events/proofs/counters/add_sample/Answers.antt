use Rattle.std.proofs.Common.{◌+◌, ◌*◌, arith}
use Rattle.view_texts.proofs.Texts.{tick_more}
use Rattle.view_texts.proofs.Pieces.{as_other}
use Rattle.view_trace_events.specs.Counters.{partition_counters}
use Rattle.view_trace_events.proofs.counters.add_sample.Goals as goal

pub loop-p-preserved : goal.loop-p-preserved
loop-p-preserved c =
    let values = partition_counters ((c.args.sample.now.tick + 1) * c.args.tick) c.args.before.now c.args.sample.now in
    tick_more values _ _ _ 0 c.loop-p.p c.loop-p.p (omega arith) c.loop-p.invariant (as_other values _ _ _ _ c.in_ok-add_partition.ensures c.at.ensures)
