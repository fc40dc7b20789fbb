use Rattle.view_texts.proofs.Rows.{row_more, rows_all}
use Rattle.view_value_changes.specs.Changes.{signal_value}
use Rattle.view_value_changes.proofs.changes.add_values.Goals as goal

pub loop-signal-preserved : goal.loop-signal-preserved
loop-signal-preserved c =
    row_more (signal_value c.args.threads.now c.args.rows.now) _ _ _ c.args.values.now c.loop-signal.signal c.index-values-signal.result c.loop-signal-test.true c.index-values-signal.is c.loop-signal.invariant c.in_ok-add_value.ensures

pub returns : goal.returns
returns c = rows_all (signal_value c.args.threads.now c.args.rows.now) _ _ c.args.values.now c.loop-signal.signal c.loop-signal-test.false c.loop-signal.invariant
