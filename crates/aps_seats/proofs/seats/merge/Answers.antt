use Rattle.std.proofs.Common.{rules, ◌∙◌}
use Rattle.aps_seats.specs.Kinds.{joined}
use Rattle.aps_seats.proofs.Sharing.{joins}
use Rattle.aps_seats.proofs.Turning.{tells_at}
use Rattle.aps_seats.proofs.Visits.{met}
use Rattle.aps_seats.proofs.seats.merge.Goals as goal

pub join_seat-requires : goal.join_seat-requires
join_seat-requires g c = let t = c.requires.table in let a = c.requires.seat in let b = c.requires.other in
    (t.0.0, t.1.0, b.2, search rules, joins g.H.Recorded.log c.args.place.now.id c.args.place.now.me.0 c.args.other.id c.args.other.me.0 a.0 b.0 a.1 b.1 c.requires.near)

pub load-requires : goal.load-requires
load-requires g c = let t = c.requires.table in let a = c.requires.seat in let e = c.join_seat.ensures in
    let both = joined g.H.Recorded.log c.args.place.now.me.0 c.args.other.me.0 in
    (e.0 ∙ t.0.0, search rules, tells_at g.H.Recorded.log _ _ c.join_seat.new.seat.me both t.0.2 a.0 (e.2 ∙ (λ i. (both, a.2 i))))

pub returns-clause-seen : goal.returns-clause-seen
returns-clause-seen g c =
    met g.H.Recorded.log c.args.place.now.me.0 c.args.other.me.0 c.join_seat.new.seat.me c.load.new.seat.me _ c.join_seat.ensures.2 c.load.ensures.2.0 (c.load.ensures.2.1, c.load.ensures.2.2)
