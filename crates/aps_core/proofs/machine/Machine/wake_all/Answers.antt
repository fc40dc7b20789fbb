use Rattle.std.proofs.Common.{◌≡◌, ◌≢◌, refl, ◌+◌, ◌∙◌, ℕ, List, ap, arith, length, subst, sym, inl, inr}
use Rattle.std.proofs.lemmas.Bool.{cases_eq}
use Rattle.std.proofs.lemmas.Grind.{common_steps}
use Rattle.std.proofs.Math.ListN.{drop_of_length-le}
use Rattle.std.proofs.lemmas.List.{take_all}
use Rattle.laws_runs.proofs.EachThread.{go_on_count}
use Rattle.aps_model.specs.SchedulerState.{SchedulerState}
use Rattle.aps_core.specs.Room.{HasRoomToWake, last_place, stamps_before}
use Rattle.aps_model.specs.TickWork.{waking}
use Rattle.aps_core.specs.Sleepers.{IsTimed, numbers_of}
use Rattle.aps_core.specs.Touched.{woke}
use Rattle.aps_core.proofs.Asleep.{others_sleep, sleepers_by, sleepers_count, those_due, timed_each, woke_after}
use Rattle.aps_core.proofs.Numbers.{woken_room}
use Rattle.aps_core.proofs.Waking.{all_wakes, all_woken, woken_more}
use Rattle.aps_core.proofs.machine.Machine.wake_all.Goals as goal

pub loop-i-preserved : goal.loop-i-preserved
loop-i-preserved c = record {
  same = grind (arith, common_steps, woken_more c.args.scenario.now c.args.now c.args.self.now c.take_due.new.self c.loop-i.i);
  room =
      let place : last_place + c.loop-i.i + 1 ≡ last_place + (c.loop-i.i + 1) = omega arith in
      let stamp : stamps_before + c.loop-i.i + 1 ≡ stamps_before + (c.loop-i.i + 1) = omega arith in
      subst (λ p. HasRoomToWake p (stamps_before + (c.loop-i.i + 1)) c.go_on.new.self) place
      (subst (λ n. HasRoomToWake (last_place + c.loop-i.i + 1) n c.go_on.new.self) stamp
      (subst (HasRoomToWake (last_place + c.loop-i.i + 1) (stamps_before + c.loop-i.i + 1)) (sym c.go_on.ensures)
      (woken_room c.args.scenario.now (last_place + c.loop-i.i) (stamps_before + c.loop-i.i) c.loop-i.self c.at-x.result c.args.now c.loop-i.invariant.room)));
  count =
      c.time.ensures.count ∙ c.loop-i.invariant.count
      ∙ sym (ap (λ (s : SchedulerState). length s.threads) c.go_on.ensures ∙ go_on_count c.args.scenario.now c.loop-i.self c.at-x.result c.args.now);
  timed = λ y absent. elim (cases_eq y c.at-x.result) [
    | inl same ↦ subst (IsTimed c.go_on.new.self c.time.new.timer) (sym same) c.time.ensures.own
    | inr other ↦
        let apart = subst (λ z. y ≢ z) c.at-x.ensures other in
        c.time.ensures.others y (subst (λ (s : SchedulerState). IsTimed s c.loop-i.timer y) (sym c.go_on.ensures)
        (others_sleep c.args.scenario.now c.loop-i.self c.loop-i.timer c.at-x.result c.args.now y other
        (c.loop-i.invariant.timed y (woke_after c.take_due.new.self c.loop-i.i y (omega (arith, c.loop-i-test.true, c.len-i-end.ensures)) apart absent))))
  ];
}

pub time-requires : goal.time-requires
time-requires c = record {
  count = c.loop-i.invariant.count ∙ sym (ap (λ (s : SchedulerState). length s.threads) c.go_on.ensures ∙ go_on_count c.args.scenario.now c.loop-i.self c.at-x.result c.args.now);
}

pub loop-i-init : goal.loop-i-init
loop-i-init c = record {
  same = refl;
  room = c.requires.room;
  count = c.take_due.ensures.count ∙ ap length c.requires.timed ∙ sleepers_count c.args.self.now;
  timed = λ y absent. c.take_due.ensures.others y absent ∙ timed_each c.args.self.now c.args.timer.now c.requires.timed y;
}

waked : (c : goal.After-loop-i) → c.take_due.new.self ≡ numbers_of (waking c.args.self.now c.args.now)
waked c = c.take_due.ensures.same ∙ ap numbers_of (those_due c.args.self.now c.args.timer.now c.args.now c.requires.timed)

pub returns-clause-woken : goal.returns-clause-woken
returns-clause-woken c = waked c

pub returns-clause-same : goal.returns-clause-same
returns-clause-same c =
    c.loop-i.invariant.same
    ∙ ap (all_woken c.args.scenario.now c.args.now c.args.self.now) (take_all _ c.take_due.new.self (omega (arith, c.loop-i-test.false, c.len-i-end.ensures)))
    ∙ all_wakes c.args.scenario.now c.args.now c.args.self.now c.take_due.new.self (waked c)

pub returns-clause-timed : goal.returns-clause-timed
returns-clause-timed c =
    sleepers_by c.loop-i.self c.loop-i.timer c.loop-i.invariant.count
    (λ x below. c.loop-i.invariant.timed x (ap (λ (l : List ℕ). woke l x) (drop_of_length-le c.take_due.new.self (omega (arith, c.loop-i-test.false, c.len-i-end.ensures)))))

pub take_due-requires : goal.take_due-requires
take_due-requires c = record {
  few = omega (arith, ap length c.requires.timed, sleepers_count c.args.self.now, ap (λ (s : SchedulerState). length s.threads) c.self.view_is, c.self.invariant.few_threads);
}
