use Rattle.std.proofs.Common.{rules}
use Rattle.aps_seats.proofs.Sharing.{witnesses}
use Rattle.aps_seats.proofs.seats.witness.Goals as goal

pub split_seat-requires : goal.split_seat-requires
split_seat-requires g c = (c.requires.table.0, search rules, witnesses g.H.Recorded.log c.args.place.now.id c.args.place.now.me.0 c.requires.seat.0)
