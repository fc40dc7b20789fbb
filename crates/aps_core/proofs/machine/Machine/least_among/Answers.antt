use Rattle.std.proofs.Common.{◌<◌, arith}
use Rattle.aps_model.specs.Limits.{most_cpus}
use Rattle.aps_core.proofs.FlagAfter.{least_of_more}
use Rattle.aps_core.proofs.machine.Machine.least_among.Goals as goal

pub loop-d-preserved : goal.loop-d-preserved
loop-d-preserved c =
    let l = c.loop-d in
    let below : l.d < most_cpus = let few = c.requires.few in omega (arith, few, c.loop-d-test.true) in
    least_of_more c.args.self.now c.args.entries.now c.args.parts.now c.args.c c.args.now l.d l.least c.key_at-key.result c.min-least.result below l.invariant
    c.key_at-key.ensures.rank c.key_at-key.ensures.key c.key_at-key.ensures.past c.min-least.ensures
