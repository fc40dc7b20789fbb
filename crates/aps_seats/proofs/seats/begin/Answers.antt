use Rattle.aps_seats.proofs.Ends.{begins_at}
use Rattle.aps_seats.proofs.seats.begin.Goals as goal

pub new-requires : goal.new-requires
new-requires g c =
    begins_at g.H.Recorded.log c.args.core c.of-about.result.value c.args.len c.new-slots.result.items c.push.new.self.items
    c.requires.few c.requires.len c.of-about.ensures c.new-slots.ensures.items c.in_default.ensures.items
