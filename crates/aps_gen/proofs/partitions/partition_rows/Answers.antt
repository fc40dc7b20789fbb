use Rattle.aps_gen.specs.Names.{partition_name}
use Rattle.aps_gen.specs.Generated.{row, share}
use Rattle.aps_gen.proofs.Loops.{row_more}
use Rattle.aps_gen.proofs.partitions.partition_rows.Goals as goal

pub loop-i-preserved : goal.loop-i-preserved
loop-i-preserved c =
    row_more (λ i. row (partition_name i) (share c.args.count)) _ c.row-in-loop-i.result c.loop-i.rows.items c.push-in-loop-i.new.self.items c.loop-i.i c.loop-i.auto.i c.loop-i.invariant
    c.in_ok-push-2.ensures.items (rw (c.row-in-loop-i.ensures, c.in_ok-name.ensures, c.from-share.ensures))
