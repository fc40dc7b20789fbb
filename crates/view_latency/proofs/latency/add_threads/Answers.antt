use Rattle.std.proofs.Common.{arith}
use Rattle.view_texts.proofs.Rows.{row_more, rows_all}
use Rattle.view_latency.specs.Text.{thread_by_known}
use Rattle.view_latency.proofs.latency.add_threads.Goals as goal

pub add_thread-requires : goal.add_thread-requires
add_thread-requires c = c.requires c.loop-x.x c.loop-x-test.true

pub loop-x-preserved : goal.loop-x-preserved
loop-x-preserved c =
    row_more (thread_by_known c.args.channels.now c.args.known.now) _ _ _ c.args.threads.now c.loop-x.x c.index-threads-x.result c.loop-x-test.true c.index-threads-x.is c.loop-x.invariant c.in_ok-add_thread.ensures

pub returns : goal.returns
returns c = rows_all (thread_by_known c.args.channels.now c.args.known.now) _ _ c.args.threads.now c.loop-x.x (omega arith) c.loop-x.invariant
