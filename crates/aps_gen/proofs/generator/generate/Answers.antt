use Rattle.aps_gen.proofs.Validity.{generated_valid}
use Rattle.aps_gen.proofs.generator.generate.Goals as goal

pub new-requires-3 : goal.new-requires-3
new-requires-3 c =
    rw (c.in_ok-rows.ensures, c.in_ok-channels.ensures.items, c.in_ok-threads.ensures, c.new-2.ensures.items, c.in-Ok.ensures.kept)
    (generated_valid c.args.seed c.args.cpus c.args.partitions c.args.ticks c.requires.some_cpu c.requires.few_cpus c.requires.some_partition c.requires.few_partitions
    c.requires.some_tick c.requires.few_ticks)
