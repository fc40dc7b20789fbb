use Rattle.std.proofs.Common.{rules}
use Rattle.aps_seats.proofs.Turning.{tells_at}
use Rattle.aps_seats.proofs.seats.load_len.Goals as goal

pub load-requires : goal.load-requires
load-requires g c = let t = c.requires.table in let seat = c.requires.seat in let me = c.args.place.now.me in
    (t.0, search rules, tells_at g.H.Recorded.log _ _ me me.0 t.2 seat.0 (λ i. (me.0, seat.1 i)))
