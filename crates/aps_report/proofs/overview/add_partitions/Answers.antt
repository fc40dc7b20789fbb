use Rattle.std.proofs.Common.{arith}
use Rattle.aps_report.specs.Lines.{partition_with}
use Rattle.aps_report.proofs.Rows.{row_more, rows_all}
use Rattle.aps_report.proofs.overview.add_partitions.Goals as goal

pub loop-id-preserved : goal.loop-id-preserved
loop-id-preserved c =
    row_more (partition_with c.args.totals.now) _ _ _ c.args.rows.now c.loop-id.id c.index-rows-id.result c.loop-id-test.true c.index-rows-id.is c.loop-id.invariant
    (rw (← c.billed.ensures, ← c.critical.ensures) c.in_ok-add_partition.ensures)

pub returns : goal.returns
returns c = rows_all (partition_with c.args.totals.now) _ _ c.args.rows.now c.loop-id.id (omega arith) c.loop-id.invariant
