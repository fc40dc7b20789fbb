use Rattle.std.proofs.Common.{sym}
use Rattle.view_samples.specs.Csv.{row_titles}
use Rattle.view_texts.proofs.Texts.{line_more}
use Rattle.view_samples.proofs.table.add_row_titles.Goals as goal

pub loop-row-preserved : goal.loop-row-preserved
loop-row-preserved c = line_more row_titles _ _ _ c.args.rows.now c.loop-row.row-index c.row-item.result c.loop-row-test.true (sym c.row-item.is) c.loop-row.invariant c.in_ok-add_titles.ensures
