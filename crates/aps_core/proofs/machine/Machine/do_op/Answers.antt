use Rattle.std.proofs.Common.{subst, arith}
use Rattle.aps_model.specs.Messages.{Effect}
use Rattle.aps_core.specs.Room.{HasRoomToWake, last_place, stamps_within}
use Rattle.aps_core.proofs.Numbers.{effect_room}
use Rattle.aps_core.proofs.machine.Machine.do_op.Goals as goal

pub enter_next-requires-clause-place : goal.enter_next-requires-clause-place
enter_next-requires-clause-place c =
    let room = subst (λ (e : Effect). HasRoomToWake 257 7000000001 e.state) c.effect-done.ensures
    (effect_room c.args.scenario.now last_place stamps_within c.args.self.now c.args.x c.args.now c.args.op.now c.requires.room.numbers) in
    let place = room.places c.args.x in
    omega (arith, place)
