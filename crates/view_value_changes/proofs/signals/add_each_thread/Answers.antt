use Rattle.std.proofs.Common.{◌+◌}
use Rattle.view_texts.proofs.Rows.{row_more, rows_all}
use Rattle.view_texts.proofs.Pieces.{as_other}
use Rattle.view_value_changes.specs.Signals.{thread_signal, word_signal}
use Rattle.view_value_changes.proofs.signals.add_each_thread.Goals as goal

pub loop-x-preserved : goal.loop-x-preserved
loop-x-preserved c =
    row_more (thread_signal c.args.first) _ _ _ c.args.threads.now c.loop-x.x c.index-threads-x.result c.loop-x-test.true c.index-threads-x.is c.loop-x.invariant
    (as_other (word_signal (c.args.first + c.loop-x.x)) _ _ _ _ c.in_ok-add_signal.ensures c.text_of.ensures)

pub returns : goal.returns
returns c = rows_all (thread_signal c.args.first) _ _ c.args.threads.now c.loop-x.x c.loop-x-test.false c.loop-x.invariant
