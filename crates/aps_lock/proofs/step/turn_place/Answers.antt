use Rattle.std.proofs.Common.{◌≡◌, ap, arith}
use Rattle.aps_core.specs.Run.{Run}
use Rattle.aps_core.specs.Turn.{after_turn}
use Rattle.aps_lock.specs.RunLog.{run_log}
use Rattle.aps_lock.proofs.Steps.{turn_steps}
use Rattle.aps_seats.proofs.Others.{seen_cpus}
use Rattle.aps_seats.proofs.Visits.{after_turn_of, may_leave, stepped_in_hand}
use Rattle.aps_lock.proofs.step.turn_place.Goals as goal

pub step_core-turn-requires-clause-held : goal.step_core-turn-requires-clause-held
step_core-turn-requires-clause-held g c =
    let found = c.enter.ensures.seat in
    let cpus : found.0.setup.scenario.shape.cpus ≡ c.args.place.now.me.0.seen.setup.scenario.shape.cpus = seen_cpus run_log _ _ _ _ found.2 in
    (found.0, ap (λ m. m.1) found.3, omega (arith, cpus, c.requires.cpu.1, c.requires.cpu.2))

pub leave-requires-clause-held : goal.leave-requires-clause-held
leave-requires-clause-held g c =
    let me = c.args.place.now.me in let s = c.step_core-turn.ensures in let later : Run = after_turn s.held.0 c.step_core-turn.result.0 in
    let turn = stepped_in_hand run_log me c.enter.new.place.me c.step_core-turn.new.place.me s.held.0 later c.enter.ensures.seat s.held.1 s.held.3 in
    let ready = may_leave run_log me c.step_core-turn.new.place.me s.held.0 later turn c.requires.seat.0 (turn_steps _ _ s.held.0 c.args.cpu c.step_core-turn.result.0 s.own c.requires.cpu.0 c.requires.cpu.1) in
    (later, ready.0, ready.1, ready.2, ready.3, s.held.4)

pub returns-clause-seat : goal.returns-clause-seat
returns-clause-seat g c =
    let me = c.args.place.now.me in let s = c.step_core-turn.ensures in let later : Run = after_turn s.held.0 c.step_core-turn.result.0 in
    let turn = stepped_in_hand run_log me c.enter.new.place.me c.step_core-turn.new.place.me s.held.0 later c.enter.ensures.seat s.held.1 s.held.3 in
    (s.held.0, turn.seen, s.held.2, after_turn_of run_log me c.step_core-turn.new.place.me c.leave.new.place.me s.held.0 later turn c.requires.seat.1 c.leave.ensures.seat, s.held.4)
