use Rattle.std.proofs.Common.{arith}
use Rattle.view_texts.proofs.Pieces.{as_other}
use Rattle.view_texts.proofs.Told.{told_item, told_row, told_rows}
use Rattle.view_trace_events.specs.Names.{named_partition, partition_names}
use Rattle.view_trace_events.proofs.names.write_partitions.Goals as goal

pub loop-p-preserved : goal.loop-p-preserved
loop-p-preserved g c = record {
  told = told_row partition_names _ _ _ _ _ _ c.args.rows.now c.loop-p.p c.index-rows-p.result c.loop-p-test.true c.index-rows-p.is c.loop-p.invariant.told
      (told_item _ _ _ _ _ _ (as_other (λ p. named_partition p c.index-rows-p.result.name) _ _ _ _ c.in_ok-add_partition.ensures c.at.ensures) c.in_ok-make_room.ensures.told);
  later = omega arith;
}

pub returns-clause-told : goal.returns-clause-told
returns-clause-told g c = told_rows partition_names _ _ _ _ c.args.rows.now c.loop-p.p c.loop-p-test.false c.loop-p.invariant.told
