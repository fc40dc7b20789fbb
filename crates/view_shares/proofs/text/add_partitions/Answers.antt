use Rattle.std.proofs.Common.{get_or, None, arith}
use Rattle.view_shares.specs.Share.{no_share}
use Rattle.view_shares.specs.Text.{partition_share_text}
use Rattle.view_texts.proofs.Rows.{row_more, rows_all}
use Rattle.view_shares.proofs.text.add_partitions.Goals as goal

pub loop-p-preserved : goal.loop-p-preserved
loop-p-preserved c =
    row_more (partition_share_text (λ p. get_or c.args.shares.now p no_share) (λ p. get_or c.args.spent.now p None)) _ _ _ c.args.rows.now c.loop-p.p c.index-rows-p.result c.loop-p-test.true c.index-rows-p.is c.loop-p.invariant c.in_ok-add_partition.ensures

pub returns : goal.returns
returns c = rows_all (partition_share_text (λ p. get_or c.args.shares.now p no_share) (λ p. get_or c.args.spent.now p None)) _ _ c.args.rows.now c.loop-p.p (omega arith) c.loop-p.invariant
