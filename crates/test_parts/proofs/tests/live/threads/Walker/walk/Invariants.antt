use Rattle.std.proofs.Common.{◌<◌, ◌≤◌}
use Rattle.aps_live.specs.Seats.{HasCpu, IsSeatOf}
use Rattle.test_parts.specs.Opened.{HasFour, IsStill}
use Rattle.test_parts.proofs.tests.live.threads.Walker.walk.Given as goal

abbrev pub invariant-loop : goal.invariant-loop
invariant-loop g l = record {
  still : IsStill l.initial.self.seat l.self.seat;
  seat : IsSeatOf l.live l.self.seat × HasCpu l.self.seat l.self.cpu;
  wakes : (l.self.wakes < 4) × HasFour l.live;
  early : l.now ≤ 10000000000000;
}
