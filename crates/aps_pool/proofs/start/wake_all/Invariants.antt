use Rattle.aps_live.specs.Seats.{HasCpu, IsSeatOf}
use Rattle.aps_pool.specs.Pool.{IsStill}
use Rattle.aps_pool.proofs.start.wake_all.Given as goal

abbrev pub invariant-loop-worker : goal.invariant-loop-worker
invariant-loop-worker g l = record {
  still : IsStill l.initial.seat l.seat;
  of : IsSeatOf l.live l.seat × HasCpu l.seat 0;
}
