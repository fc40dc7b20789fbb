use Rattle.std.proofs.Common.{arith}
use Rattle.aps_core.proofs.Seats.{seats_by}
use Rattle.aps_core.proofs.machine.Machine.sync_all.Goals as goal

pub returns : goal.returns
returns c =
    seats_by c.args.self.now c.enter.ready c.enter.invariant.count
    (λ y below. c.enter.invariant.entered y (omega (arith, below, c.enter-test.false, c.count-x-end-2.ensures.same)))
