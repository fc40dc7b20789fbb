use Rattle.std.proofs.Common.{rules}
use Rattle.aps_seats.proofs.Turning.{takes_ticket_at}
use Rattle.aps_seats.proofs.turn.take_ticket.Goals as goal

pub fetch_add-requires : goal.fetch_add-requires
fetch_add-requires g c = let t = c.requires.table in let seat = c.requires.seat in
    (t.0, search rules, takes_ticket_at g.H.Recorded.log _ _ c.args.place.now.me t.2 seat.1 seat.0 seat.2)
