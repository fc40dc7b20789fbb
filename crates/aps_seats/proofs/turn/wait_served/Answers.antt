use Rattle.std.proofs.Common.{rules, ◌∙◌}
use Rattle.aps_seats.proofs.Turning.{looks_at}
use Rattle.aps_seats.proofs.turn.wait_served.Goals as goal

pub load-requires : goal.load-requires
load-requires g c = let t = c.requires.table in let seat = c.requires.seat in let i = c.loop.invariant in
    (i.0 ∙ t.0, search rules, looks_at g.H.Recorded.log _ _ c.args.ticket c.args.place.now.me c.loop.place.me t.2 seat.0 seat.1 seat.2 i.1)
