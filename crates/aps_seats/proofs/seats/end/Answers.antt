use Rattle.std.proofs.Common.{sym, ◌∙◌}
use mathlib.Core.Option.{some-injective}
use Rattle.aps_seats.proofs.Ends.{closes, same_core, some_core}
use Rattle.aps_seats.proofs.seats.end.Goals as goal

pub unwrap-core-requires : goal.unwrap-core-requires
unwrap-core-requires g c =
    let seat = c.requires.seat in let all = c.requires.all in
    some_core _ _ (some-injective _ _ (sym c.take.ensures.value ∙ closes g.H.Recorded.log c.args.place.id c.args.place.me.0 _ _ seat.0 seat.1 all.0 all.1 c.close_with-closed.ensures.values.2))

pub returns : goal.returns
returns g c =
    let seat = c.requires.seat in let all = c.requires.all in
    same_core _ _ (sym c.unwrap-core.ensures ∙ some-injective _ _ (sym c.take.ensures.value ∙ closes g.H.Recorded.log c.args.place.id c.args.place.me.0 _ _ seat.0 seat.1 all.0 all.1 c.close_with-closed.ensures.values.2))
