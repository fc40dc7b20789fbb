use Rattle.std.proofs.Common.{◌≤◌, Option, subst, arith}
use Rattle.std.specs.Option.{IfSome}
use Rattle.aps_model.specs.declared.state.Pick.{Pick}
use Rattle.aps_model.specs.Messages.{Effect}
use Rattle.aps_model.specs.SchedulerState.{thread_at}
use Rattle.aps_core.specs.Room.{CanFinish, last_place, stamps_within}
use Rattle.aps_core.proofs.Numbers.{finished_stamps}
use Rattle.aps_core.proofs.machine.Machine.settle.Goals as goal

pub give_back-requires : goal.give_back-requires
give_back-requires c =
    let few = subst (λ (e : Effect). e.state.stamps ≤ 7000000001) c.finish_op-done.ensures
    (finished_stamps c.args.scenario.now last_place stamps_within c.args.self.now c.in-Some.pick.thread c.args.now (thread_at c.args.self.now c.in-Some.pick.thread).left (subst (λ (o : Option Pick). IfSome o (λ (p : Pick). CanFinish c.args.scenario.now c.args.self.now p.thread)) c.in-Some.is c.requires.room).room.numbers) in
    omega (arith, few)
