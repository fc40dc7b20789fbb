use Rattle.aps_seats.proofs.Visits.{entered}
use Rattle.aps_seats.proofs.turn.enter.Goals as goal

pub returns-clause-seat : goal.returns-clause-seat
returns-clause-seat g c =
    entered g.H.Recorded.log c.args.place.now.me c.take_ticket-ticket.new.place.me c.wait_served.new.place.me c.take_ticket-ticket.result c.take_ticket-ticket.ensures.seat c.wait_served.ensures.seat
