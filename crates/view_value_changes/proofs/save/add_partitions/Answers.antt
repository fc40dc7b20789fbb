use Rattle.std.proofs.Common.{sym}
use Rattle.view_texts.proofs.Texts.{line_more}
use Rattle.view_texts.proofs.Pieces.{as_other}
use Rattle.view_value_changes.specs.Save.{partition_group, row_group}
use Rattle.view_value_changes.proofs.save.add_partitions.Goals as goal

pub loop-row-preserved : goal.loop-row-preserved
loop-row-preserved c =
    line_more row_group _ _ _ c.args.rows.now c.loop-row.row-index c.row-item.result c.loop-row-test.true (sym c.row-item.is) c.loop-row.invariant
    (as_other partition_group _ _ _ _ c.in_ok-add_partition.ensures c.text_of.ensures)
