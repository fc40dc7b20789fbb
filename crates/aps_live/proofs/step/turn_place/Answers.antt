use Rattle.std.proofs.Common.{◌≡◌, ap, arith, subst, sym}
use Rattle.aps_model.specs.Scenario.{Scenario}
use Rattle.aps_live.specs.LiveHistory.{NamesThread}
use Rattle.aps_live.specs.LiveRun.{LiveRun, after_live_turn}
use Rattle.aps_live.specs.RunLog.{live_log}
use Rattle.aps_live.proofs.Steps.{seen_scenario, turn_steps}
use Rattle.aps_seats.proofs.Others.{seen_cpus}
use Rattle.aps_seats.proofs.Visits.{after_turn_of, may_leave, stepped_in_hand}
use Rattle.aps_live.proofs.step.turn_place.Goals as goal

pub step_core-turn-requires-clause-held : goal.step_core-turn-requires-clause-held
step_core-turn-requires-clause-held g c =
    let found = c.enter.ensures.seat in
    let cpus : found.0.setup.scenario.shape.cpus ≡ c.args.place.now.me.0.seen.setup.scenario.shape.cpus = seen_cpus live_log _ _ _ _ found.2 in
    (found.0, ap (λ m. m.1) found.3, omega (arith, cpus, c.requires.cpu.1, c.requires.cpu.2), subst (λ (n : Scenario). NamesThread n c.args.event) (sym (seen_scenario _ _ _ _ found.2)) c.requires.named)

pub leave-requires-clause-held : goal.leave-requires-clause-held
leave-requires-clause-held g c =
    let me = c.args.place.now.me in let s = c.step_core-turn.ensures in let later : LiveRun = after_live_turn s.held.0 c.args.event c.step_core-turn.result.0 in
    let turn = stepped_in_hand live_log me c.enter.new.place.me c.step_core-turn.new.place.me s.held.0 later c.enter.ensures.seat s.held.1 s.held.3 in
    let ready = may_leave live_log me c.step_core-turn.new.place.me s.held.0 later turn c.requires.seat.0 (turn_steps _ _ s.held.0 c.args.cpu c.args.event c.step_core-turn.result.0 s.own c.requires.cpu.0 c.requires.cpu.1) in
    (later, ready.0, ready.1, ready.2, ready.3, s.held.4)

pub returns-clause-seat : goal.returns-clause-seat
returns-clause-seat g c =
    let me = c.args.place.now.me in let s = c.step_core-turn.ensures in let later : LiveRun = after_live_turn s.held.0 c.args.event c.step_core-turn.result.0 in
    let turn = stepped_in_hand live_log me c.enter.new.place.me c.step_core-turn.new.place.me s.held.0 later c.enter.ensures.seat s.held.1 s.held.3 in
    (s.held.0, turn.seen, s.held.2, after_turn_of live_log me c.step_core-turn.new.place.me c.leave.new.place.me s.held.0 later turn c.requires.seat.1 c.leave.ensures.seat, s.held.4)
