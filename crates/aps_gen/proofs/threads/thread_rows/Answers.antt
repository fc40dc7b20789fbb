use Rattle.aps_gen.proofs.Loops.{partition_more, partition_all}
use Rattle.aps_gen.proofs.threads.thread_rows.Goals as goal

pub loop-i-preserved : goal.loop-i-preserved
loop-i-preserved c =
    partition_more c.args.cpus c.loop-i.i c.args.partitions c.loop-i.draws.state c.add_partition.new.draws.state c.loop-i.threads.items c.add_partition.new.threads.items _
    c.loop-i-test.true c.loop-i.invariant c.in_ok-add_partition.ensures.threads c.in_ok-add_partition.ensures.drawn

pub returns : goal.returns
returns c = partition_all c.args.cpus c.loop-i.i c.args.partitions c.loop-i.draws.state c.loop-i.threads.items _ c.loop-i-test.false c.loop-i.invariant
