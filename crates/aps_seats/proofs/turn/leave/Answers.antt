use Rattle.std.proofs.Common.{rules, ◌∙◌}
use Rattle.aps_seats.proofs.Turning.{publishes_at, releases_at}
use Rattle.aps_seats.proofs.Visits.{gone}
use Rattle.aps_seats.proofs.turn.leave.Goals as goal

pub swap-requires : goal.swap-requires
swap-requires g c = let t = c.requires.table in let held = c.requires.held in
    (t.0, search rules, publishes_at g.H.Recorded.log _ _ c.args.len c.args.place.now.me held.0 t.2 held.1 held.2 held.3 held.4 held.5)

pub fetch_add-requires : goal.fetch_add-requires
fetch_add-requires g c = let t = c.requires.table in let held = c.requires.held in let e = c.swap.ensures in
    (e.0 ∙ t.0, search rules, releases_at g.H.Recorded.log _ _ c.args.place.now.me c.swap.new.seat.me held.0 t.2 held.1 held.2 held.3 (e.2 held.0 held.3))

pub returns-clause-seat : goal.returns-clause-seat
returns-clause-seat g c = let held = c.requires.held in
    (held.0, held.3, gone g.H.Recorded.log c.args.place.now.me c.swap.new.seat.me c.fetch_add.new.seat.me held.0 (c.swap.ensures.2 held.0 held.3) c.fetch_add.ensures.2)
