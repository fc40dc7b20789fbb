use Rattle.std.proofs.Common.{arith}
use Rattle.aps_report.specs.Lines.{thread_with}
use Rattle.aps_report.proofs.Rows.{row_more, rows_all}
use Rattle.aps_report.proofs.overview.add_threads.Goals as goal

pub loop-id-preserved : goal.loop-id-preserved
loop-id-preserved c =
    row_more (thread_with c.args.totals.now) _ _ _ c.args.threads.now c.loop-id.id c.index-threads-id.result c.loop-id-test.true c.index-threads-id.is c.loop-id.invariant
    (rw (← c.ran.ensures) c.in_ok-add_thread.ensures)

pub returns : goal.returns
returns c = rows_all (thread_with c.args.totals.now) _ _ c.args.threads.now c.loop-id.id (omega arith) c.loop-id.invariant
