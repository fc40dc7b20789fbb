use Rattle.std.proofs.Common.{◌≡◌}
use Rattle.aps_live.specs.Seats.{own_steps}
use Rattle.aps_pool.proofs.work.ask.Given as goal

abbrev pub invariant-loop : goal.invariant-loop
invariant-loop g l = record {
  first : l.slot.seat.first ≡ l.initial.slot.seat.first;
  last : l.slot.seat.last ≡ l.initial.slot.seat.last;
  own : own_steps l.initial.slot.seat.first l.initial.slot.seat.last l.slot.seat.seen.steps ≡ own_steps l.initial.slot.seat.first l.initial.slot.seat.last l.initial.slot.seat.seen.steps;
}
