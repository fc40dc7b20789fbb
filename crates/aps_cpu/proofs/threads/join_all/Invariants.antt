use Rattle.std.proofs.Common.{◌≡◌, ◌+◌, vec_len}
use Rattle.aps_core.specs.Run.{IsLater}
use Rattle.aps_lock.specs.Seats.{IsSeatOf}
use Rattle.aps_cpu.specs.Row.{HasSeenFrom, AreSeatsInRow}
use Rattle.aps_cpu.proofs.threads.join_all.Given as goal

abbrev pub invariant-loop-next : goal.invariant-loop-next
invariant-loop-next l = record {
  of : IsSeatOf l.dispatch l.seat;
  first : l.seat.first ≡ l.fn.whole.value.first;
  seen : IsLater l.fn.whole.value.seen l.seat.seen;
  row : AreSeatsInRow l.dispatch (HasSeenFrom l.fn.whole.value.seen) l.seats.items (l.fn.whole.value.last + 1) (l.seat.last + 1);
}

abbrev pub decreases-loop-next : goal.decreases-loop-next
decreases-loop-next l = vec_len l.seats
