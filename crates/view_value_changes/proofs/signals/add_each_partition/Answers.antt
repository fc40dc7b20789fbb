use Rattle.view_texts.proofs.Rows.{row_more, rows_all}
use Rattle.view_value_changes.specs.Signals.{row_scope}
use Rattle.view_value_changes.proofs.signals.add_each_partition.Goals as goal

pub loop-p-preserved : goal.loop-p-preserved
loop-p-preserved c =
    row_more (row_scope c.args.first) _ _ _ c.args.rows.now c.loop-p.p c.index-rows-p.result c.loop-p-test.true c.index-rows-p.is c.loop-p.invariant c.in_ok-add_partition.ensures

pub returns : goal.returns
returns c = rows_all (row_scope c.args.first) _ _ c.args.rows.now c.loop-p.p c.loop-p-test.false c.loop-p.invariant
