use Rattle.std.proofs.Common.{◌<◌, ◌≤◌}
use Rattle.aps_cpu.specs.Driven.{IsOnFrom, most_waited}
use Rattle.aps_cpu.proofs.Turns.{HasMade}
use Rattle.aps_cpu.proofs.driver.drive.Given as goal

abbrev pub invariant-loop : goal.invariant-loop
invariant-loop g l = record {
  on : IsOnFrom l.initial.seat l.seat;
  made : HasMade l.initial.seat l.seat;
  low : l.initial.seat.first ≤ l.cpu;
  high : l.cpu ≤ l.initial.seat.last;
  waited : l.seat.waited < most_waited;
}
