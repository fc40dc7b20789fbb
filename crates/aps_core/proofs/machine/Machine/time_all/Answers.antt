use Rattle.std.proofs.Common.{arith}
use Rattle.aps_core.proofs.Asleep.{sleepers_by}
use Rattle.aps_core.proofs.machine.Machine.time_all.Goals as goal

pub returns : goal.returns
returns c =
    sleepers_by c.args.self.now c.loop-x.timer c.loop-x.invariant.count
    (λ y below. c.loop-x.invariant.timed y (omega (arith, below, c.loop-x-test.false, c.count-x-end.ensures.same)))
