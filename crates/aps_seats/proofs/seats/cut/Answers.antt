use Rattle.std.proofs.Common.{rules}
use Rattle.aps_seats.proofs.Sharing.{cuts_at}
use Rattle.aps_seats.proofs.seats.cut.Goals as goal

pub split_seat-requires : goal.split_seat-requires
split_seat-requires g c = let at = c.requires.at in
    (c.requires.table.0, search rules, cuts_at g.H.Recorded.log c.args.place.now.id c.args.place.now.me.0 _ c.args._at at.0 c.requires.seat.0 at.1 at.2)
