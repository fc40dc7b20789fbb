use Rattle.std.proofs.Common.{◌≡◌, ◌+◌, ◌-◌, ◌≤◌, vec_len, vec_capacity}
use Rattle.aps_cpu.specs.Row.{IsFresh, IsDrivable, AreSeatsInRow}
use Rattle.aps_cpu.proofs.threads.split_all.Given as goal

abbrev pub invariant-loop-seat : goal.invariant-loop-seat
invariant-loop-seat l = record {
  ready : IsDrivable l.dispatch l.seat;
  first : l.seat.first ≡ l.initial.seat.first;
  seen : l.seat.seen ≡ l.initial.seat.seen;
  row : AreSeatsInRow l.dispatch (IsFresh l.initial.seat.seen) l.seats.items (l.initial.seat.last + 1) (l.seat.last + 1);
  room : l.seat.last + 1 - l.seat.first + vec_len l.seats ≤ vec_capacity l.seats;
}

abbrev pub decreases-loop-seat : goal.decreases-loop-seat
decreases-loop-seat l = l.seat.last - l.seat.first
