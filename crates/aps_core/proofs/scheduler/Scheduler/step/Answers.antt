use Rattle.std.proofs.Common.{◌≡◌, ◌≢◌, ℕ, false, ◌<◌, IfSome, ◌/◌, ◌||◌, nat_lt, List, Option, Some, None, ◌≤◌, [], ◌∷◌, ◌++◌, sym, ◌∙◌, refl, subst, length, slice_index, ap, arith, inl, inr}
use Rattle.std.proofs.lemmas.Bool.Decides.{nat_tests}
use Rattle.std.specs.Option.{option_map}
use Rattle.aps_model.specs.declared.entry.Entry.{Entry}
use Rattle.aps_model.specs.declared.merit.Contender.{Contender}
use Rattle.aps_model.specs.declared.shape.Shape.{Shape}
use Rattle.aps_model.specs.declared.state.Pick.{Pick}
use Rattle.aps_model.specs.Bill.{bill_of}
use Rattle.aps_model.specs.Due.{due}
use Rattle.aps_model.specs.Limits.{last_moment, most_commands}
use Rattle.aps_model.specs.Messages.{Effect}
use Rattle.aps_model.specs.SchedulerState.{SchedulerState, cpu_at, thread_at}
use Rattle.aps_model.specs.Shape.{IsShape}
use Rattle.aps_model.specs.Step.{Step}
use Rattle.aps_model.specs.TickWork.{has_tick_work}
use Rattle.laws_runs.specs.Moments.{moment}
use Rattle.laws_runs.specs.Servers.{IsNobodysClient}
use Rattle.laws_runs.specs.Stamps.{IsStamped}
use Rattle.aps_window.specs.Window.{Window, total_of}
use Rattle.aps_core.specs.declared.scheduler.Scheduler.{Scheduler}
use Rattle.aps_core.specs.Counts.{CanBill, Counts, parts_in}
use Rattle.aps_core.specs.Kept.{KeepsFrame}
use Rattle.aps_core.specs.LastEnds.{AreEnds}
use Rattle.aps_core.specs.Pending.{IsPending}
use Rattle.aps_core.specs.Posts.{ArePosts}
use Rattle.aps_core.specs.Room.{HasRoomToWake, changes_of_a_run, last_place, stamps_before}
use Rattle.aps_core.specs.Seats.{who_at}
use Rattle.aps_core.specs.Sleepers.{sleepers_of}
use Rattle.aps_core.specs.Standing.{DoOthersStand}
use Rattle.aps_core.specs.Touched.{IsTouched, is_at_channel, peer_of}
use Rattle.aps_core.proofs.Counting.{parts_are}
use Rattle.aps_core.proofs.Frame.{kept_then, settled_kept}
use Rattle.aps_core.proofs.Seats.{seats_count, who_seats}
use Rattle.aps_core.proofs.FactsStay.{step_facts}
use Rattle.aps_core.proofs.NextDues.{unflagged_bill}
use Rattle.aps_core.proofs.PostsStay.{posts_stay, runs_apart}
use Rattle.aps_core.proofs.SeatsStay.{running_out, step_seat}
use Rattle.aps_core.proofs.Asleep.{running_awake, sleepers_count}
use Rattle.aps_core.proofs.SleepersStay.{picked_sleepers, settled_timer, tested_timer}
use Rattle.aps_core.proofs.StandsStay.{calm_kept, neither, others_stand}
use Rattle.aps_core.proofs.StepCounts.{IsBilling, billing, counted_as, counts_begun, counts_left, done_bill, entry_of, own_bill, picked_bill, room_to_bill, settled_shape, spent_shape, tested_shape}
use Rattle.aps_core.proofs.StepParts.{billed_by, room_after, settled_by, step_at_horizon, step_below, step_over, tested_by, ticked_by}
use Rattle.aps_core.proofs.TickDone.{work_done}
use Rattle.aps_core.proofs.scheduler.Scheduler.step.Goals as goal

-- ---- the work of the tick

pub begin_tick-commanded-requires-clause-work : goal.begin_tick-commanded-requires-clause-work
begin_tick-commanded-requires-clause-work c = record {
  at_hand = c.tick_of-tick.ensures.same ∙ ap (λ (s : SchedulerState). c.of-now.result / s.shape.tick) (sym c.begin-running.ensures.same);
  few = c.tick_of-tick.ensures.few;
  valid = c.requires.valid;
  pending =
      subst (λ (s : SchedulerState). IsPending c.args.scenario.now s.shape.tick c.args.entries.now c.args.self.now.ctl) (sym c.begin-running.ensures.same) c.requires.after.pending;
  rising = c.requires.rising;
  counts =
      counts_begun c.args.self.now.machine c.begin-running.new.self c.args.entries.now c.args.cpu c.of-now.result c.tick_of-tick.result c.args.self.now.window c.go_on-is_later.new.window c.requires.after.counts
      (omega (arith, c.requires.ready.rises, (c.of-now.ensures ∙ c.requires.after.nexts c.args.cpu c.requires.ready.exists))) c.tick_of-tick.ensures.same c.go_on-is_later.ensures.same c.begin-running.ensures.same;
  early = rw (c.of-now.ensures ∙ c.requires.after.nexts c.args.cpu c.requires.ready.exists) c.requires.ready.early;
  room =
      subst (HasRoomToWake last_place stamps_before) (sym c.begin-running.ensures.same)
      (record { places = c.requires.ready.wakes.places; stamps = c.requires.ready.wakes.stamps });
  timed = c.requires.after.timed ∙ ap sleepers_of (sym c.begin-running.ensures.same);
  replies =
      subst (λ (s : SchedulerState). length s.replies ≤ most_commands)
      (sym (ticked_by c.args.scenario.now c.args.self.now.machine c.args.entries.now c.args.cpu _ _ _ (c.of-now.ensures ∙ c.requires.after.nexts c.args.cpu c.requires.ready.exists) c.begin-running.ensures.same refl)) c.requires.ready.replies;
  changes =
      subst (λ (s : SchedulerState). length s.changes ≤ changes_of_a_run)
      (sym (ticked_by c.args.scenario.now c.args.self.now.machine c.args.entries.now c.args.cpu _ _ _ (c.of-now.ensures ∙ c.requires.after.nexts c.args.cpu c.requires.ready.exists) c.begin-running.ensures.same refl)) c.requires.ready.changes_ticked;
}

pub begin_tick-commanded-requires-clause-done : goal.begin_tick-commanded-requires-clause-done
begin_tick-commanded-requires-clause-done c calm nonempty =
    let s = c.args.self.now.machine in
    let h = c.args.entries.now in
    let at : c.of-now.result / s.shape.tick ≡ moment h / s.shape.tick = sym c.tick_of-tick.ensures.same ∙ c.go_on-is_later.ensures.at_hand calm ∙ c.requires.after.counts.tick in
    let rises : moment h ≤ c.of-now.result = omega (arith, c.requires.ready.rises, (c.of-now.ensures ∙ c.requires.after.nexts c.args.cpu c.requires.ready.exists)) in
    subst (λ (u : SchedulerState). has_tick_work u h c.of-now.result ≡ false) (sym c.begin-running.ensures.same) (work_done s h c.of-now.result nonempty rises at)

-- ---- the bill

pub bill-requires-clause-to : goal.bill-requires-clause-to
bill-requires-clause-to c = rw (c.bill_of-e.ensures.to, (c.of-now.ensures ∙ c.requires.after.nexts c.args.cpu c.requires.ready.exists)) c.requires.ready.early

pub bill-requires-clause-forward : goal.bill-requires-clause-forward
bill-requires-clause-forward c = rw (c.bill_of-e.ensures.from, c.bill_of-e.ensures.to, (c.of-now.ensures ∙ c.requires.after.nexts c.args.cpu c.requires.ready.exists), c.last_end-from.ensures.same) c.requires.ready.forward

pub bill-requires-clause-since : goal.bill-requires-clause-since
bill-requires-clause-since c =
    subst (λ (s : SchedulerState). (x : ℕ) → (thread_at s x).since ≤ last_moment)
    (sym (ticked_by c.args.scenario.now c.args.self.now.machine c.args.entries.now c.args.cpu _ _ _ (c.of-now.ensures ∙ c.requires.after.nexts c.args.cpu c.requires.ready.exists) c.begin-running.ensures.same c.begin_tick-commanded.ensures.same))
    c.requires.ready.since

-- ---- the whole

pub returns-clause-same : goal.returns-clause-same
returns-clause-same c =
    let b =
    tested_by c.args.scenario.now c.args.self.now.machine c.args.entries.now c.args.cpu _ _ _ _ _ _ _ _ _
    (c.of-now.ensures ∙ c.requires.after.nexts c.args.cpu c.requires.ready.exists) c.last_end-from.ensures.same c.begin-running.ensures.running c.begin-running.ensures.same c.begin_tick-commanded.ensures.same c.bill_of-e.ensures.same c.bill.ensures c.test-reboot.ensures in
    step_below c.args.scenario.now c.args.self.now.machine c.args.entries.now c.args.cpu _ _ _ _ _ _ _ b
    (c.is_over.ensures.on c.if-is_over.false).0
    (c.is_over.ensures.on c.if-is_over.false).1 c.settle-done.ensures c.bill_of-e.ensures.to c.pick.ensures.same

-- ---- the window

pub add_time-requires-clause-shape : goal.add_time-requires-clause-shape
add_time-requires-clause-shape c = subst IsShape (sym c.shape.ensures.same) c.shape.ensures.valid

pub add_time-requires-clause-entry : goal.add_time-requires-clause-entry
add_time-requires-clause-entry c =
    let s2 = c.begin_tick-commanded.new.self.machine in
    let e = c.bill_of-e.result in
    let b : IsBilling c.args.scenario.now c.args.self.now.machine c.args.entries.now c.args.cpu c.of-now.result c.last_end-from.result c.tick_of-tick.result c.begin-running.result c.begin-running.new.self s2 e =
    billing (c.of-now.ensures ∙ c.requires.after.nexts c.args.cpu c.requires.ready.exists) c.last_end-from.ensures.same c.begin-running.ensures.running c.begin-running.ensures.same
    c.begin_tick-commanded.ensures.same c.bill_of-e.ensures.same c.bill_of-e.ensures.from c.bill_of-e.ensures.to c.tick_of-tick.ensures.same in
    entry_of c.args.scenario.now c.args.self.now.machine c.args.entries.now c.args.cpu c.of-now.result c.last_end-from.result c.tick_of-tick.result c.begin-running.result c.begin-running.new.self s2 e c.requires.ready b

pub add_time-requires-clause-room : goal.add_time-requires-clause-room
add_time-requires-clause-room c =
    let s2 = c.begin_tick-commanded.new.self.machine in
    let e = c.bill_of-e.result in
    let b : IsBilling c.args.scenario.now c.args.self.now.machine c.args.entries.now c.args.cpu c.of-now.result c.last_end-from.result c.tick_of-tick.result c.begin-running.result c.begin-running.new.self s2 e =
    billing (c.of-now.ensures ∙ c.requires.after.nexts c.args.cpu c.requires.ready.exists) c.last_end-from.ensures.same c.begin-running.ensures.running c.begin-running.ensures.same
    c.begin_tick-commanded.ensures.same c.bill_of-e.ensures.same c.bill_of-e.ensures.from c.bill_of-e.ensures.to c.tick_of-tick.ensures.same in
    let before = c.begin_tick-commanded.ensures.counts in
    subst (λ (x : Shape). CanBill x.tick c.begin_tick-commanded.new.self.window e) (sym c.shape.ensures.same)
    (room_to_bill c.args.scenario.now c.args.self.now.machine c.args.entries.now c.args.cpu c.of-now.result c.last_end-from.result c.tick_of-tick.result c.begin-running.result c.begin-running.new.self s2 e c.begin_tick-commanded.new.self.window
    c.requires.ready b c.tick_of-tick.ensures.few c.shape.ensures.valid
    (entry_of c.args.scenario.now c.args.self.now.machine c.args.entries.now c.args.cpu c.of-now.result c.last_end-from.result c.tick_of-tick.result c.begin-running.result c.begin-running.new.self s2 e c.requires.ready b)
    before)

pub test-reboot-requires-clause-counts : goal.test-reboot-requires-clause-counts
test-reboot-requires-clause-counts c =
    let s2 = c.begin_tick-commanded.new.self.machine in
    let e = c.bill_of-e.result in
    let b : IsBilling c.args.scenario.now c.args.self.now.machine c.args.entries.now c.args.cpu c.of-now.result c.last_end-from.result c.tick_of-tick.result c.begin-running.result c.begin-running.new.self s2 e =
    billing (c.of-now.ensures ∙ c.requires.after.nexts c.args.cpu c.requires.ready.exists) c.last_end-from.ensures.same c.begin-running.ensures.running c.begin-running.ensures.same
    c.begin_tick-commanded.ensures.same c.bill_of-e.ensures.same c.bill_of-e.ensures.from c.bill_of-e.ensures.to c.tick_of-tick.ensures.same in
    let before = c.begin_tick-commanded.ensures.counts in
    let with_bill =
    counted_as s2.shape c.shape.result.now c.args.entries.now (c.of-now.result / c.begin-running.new.self.shape.tick) c.begin_tick-commanded.new.self.window c.add_time.new.window e c.shape.ensures.same
    c.add_time.ensures.counts before in
    let spent : c.bill.new.self.shape ≡ s2.shape = spent_shape c.begin_tick-commanded.new.self.machine e c.begin-running.result c.bill.new.self c.bill.ensures in
    counts_left c.args.scenario.now c.args.self.now.machine c.args.entries.now c.args.cpu c.of-now.result c.last_end-from.result c.tick_of-tick.result c.begin-running.result c.begin-running.new.self s2 e c.add_time.new.window
    c.requires.ready b with_bill c.bill.new.self e (spent) (own_bill e)

pub returns-then-is_over-clause-pending : goal.returns-then-is_over-clause-pending
returns-then-is_over-clause-pending c =
    subst (λ n. IsPending c.args.scenario.now n (c.args.entries.now ++ c.bill_of-e.result ∷ []) c.begin_tick-commanded.new.self.ctl) (ap (λ (u : SchedulerState). u.shape.tick) c.begin-running.ensures.same)
    (c.begin_tick-commanded.ensures.pending c.bill_of-e.result (c.bill_of-e.ensures.to))

pub returns-then-is_over-clause-counts : goal.returns-then-is_over-clause-counts
returns-then-is_over-clause-counts c =
    let s2 = c.begin_tick-commanded.new.self.machine in
    let e = c.bill_of-e.result in
    let b : IsBilling c.args.scenario.now c.args.self.now.machine c.args.entries.now c.args.cpu c.of-now.result c.last_end-from.result c.tick_of-tick.result c.begin-running.result c.begin-running.new.self s2 e =
    billing (c.of-now.ensures ∙ c.requires.after.nexts c.args.cpu c.requires.ready.exists) c.last_end-from.ensures.same c.begin-running.ensures.running c.begin-running.ensures.same
    c.begin_tick-commanded.ensures.same c.bill_of-e.ensures.same c.bill_of-e.ensures.from c.bill_of-e.ensures.to c.tick_of-tick.ensures.same in
    let before = c.begin_tick-commanded.ensures.counts in
    let with_bill =
    counted_as s2.shape c.shape.result.now c.args.entries.now (c.of-now.result / c.begin-running.new.self.shape.tick) c.begin_tick-commanded.new.self.window c.add_time.new.window e c.shape.ensures.same
    c.add_time.ensures.counts before in
    let spent : c.bill.new.self.shape ≡ s2.shape = spent_shape c.begin_tick-commanded.new.self.machine e c.begin-running.result c.bill.new.self c.bill.ensures in
    let tested = tested_shape c.bill.new.self c.args.entries.now e c.test-reboot.new.self c.test-reboot.result c.test-reboot.ensures in
    counts_left c.args.scenario.now c.args.self.now.machine c.args.entries.now c.args.cpu c.of-now.result c.last_end-from.result c.tick_of-tick.result c.begin-running.result c.begin-running.new.self s2 e c.add_time.new.window
    c.requires.ready b with_bill c.test-reboot.new.self e (tested ∙ spent) (own_bill e)

pub settle-done-requires-clause-room : goal.settle-done-requires-clause-room
settle-done-requires-clause-room c =
    room_after c.args.scenario.now c.args.self.now.machine c.args.entries.now c.args.cpu c.of-now.result c.begin-running.result c.bill_of-e.result c.test-reboot.new.self c.test-reboot.result
    (tested_by c.args.scenario.now c.args.self.now.machine c.args.entries.now c.args.cpu _ _ _ _ _ _ _ _ _
    (c.of-now.ensures ∙ c.requires.after.nexts c.args.cpu c.requires.ready.exists) c.last_end-from.ensures.same c.begin-running.ensures.running c.begin-running.ensures.same c.begin_tick-commanded.ensures.same c.bill_of-e.ensures.same c.bill.ensures c.test-reboot.ensures)
    c.requires.ready.room

pub pick-requires-clause-stands : goal.pick-requires-clause-stands
pick-requires-clause-stands c =
    let s2 = c.begin_tick-commanded.new.self.machine in
    let e = c.bill_of-e.result in
    let b : IsBilling c.args.scenario.now c.args.self.now.machine c.args.entries.now c.args.cpu c.of-now.result c.last_end-from.result c.tick_of-tick.result c.begin-running.result c.begin-running.new.self s2 e =
    billing (c.of-now.ensures ∙ c.requires.after.nexts c.args.cpu c.requires.ready.exists) c.last_end-from.ensures.same c.begin-running.ensures.running c.begin-running.ensures.same
    c.begin_tick-commanded.ensures.same c.bill_of-e.ensures.same c.bill_of-e.ensures.from c.bill_of-e.ensures.to c.tick_of-tick.ensures.same in
    let before = c.begin_tick-commanded.ensures.counts in
    let with_bill =
    counted_as s2.shape c.shape.result.now c.args.entries.now (c.of-now.result / c.begin-running.new.self.shape.tick) c.begin_tick-commanded.new.self.window c.add_time.new.window e c.shape.ensures.same
    c.add_time.ensures.counts before in
    let spent : c.bill.new.self.shape ≡ s2.shape = spent_shape c.begin_tick-commanded.new.self.machine e c.begin-running.result c.bill.new.self c.bill.ensures in
    let tested = tested_shape c.bill.new.self c.args.entries.now e c.test-reboot.new.self c.test-reboot.result c.test-reboot.ensures in
    let settled = settled_shape c.args.scenario.now c.test-reboot.new.self c.of-now.result c.begin-running.result _ c.settle-done.ensures in
    let e' = record e { done = c.settle-done.result } in
    let s4 = c.settle-done.new.self in
    let left = settled_kept c.args.scenario.now c.test-reboot.new.self c.of-now.result c.begin-running.result in
    let counts : Counts s4.shape (c.args.entries.now ++ e' ∷ []) (e'.to / s4.shape.tick) c.add_time.new.window =
    counts_left c.args.scenario.now c.args.self.now.machine c.args.entries.now c.args.cpu c.of-now.result c.last_end-from.result c.tick_of-tick.result c.begin-running.result c.begin-running.new.self s2 e c.add_time.new.window
    c.requires.ready b with_bill c.settle-done.new.self (record e { done = c.settle-done.result }) (settled ∙ tested ∙ spent) (done_bill e c.settle-done.result) in
    let rows : s4.rows ≡ c.test-reboot.new.self.rows = sym (ap (λ (x : Effect). x.state.rows) c.settle-done.ensures) ∙ left.rows in
    c.stand_by.ensures.same
    ∙ (λ i. parts_in (sym settled i) (sym rows i) c.add_time.new.window)
    ∙ parts_are s4.shape s4.rows (c.args.entries.now ++ e' ∷ []) (e'.to / s4.shape.tick) c.add_time.new.window counts
    (let few = c.stand_by.ensures.few in omega (arith, few, ap length rows))

pub returns-clause-pending : goal.returns-clause-pending
returns-clause-pending c =
    subst (λ (u : Scheduler). IsPending c.args.scenario.now c.args.self.now.machine.shape.tick (c.args.entries.now ++ c.pick.new.e ∷ []) u.ctl) (sym c.pick.ensures.others)
    (subst (λ n. IsPending c.args.scenario.now n (c.args.entries.now ++ c.pick.new.e ∷ []) c.begin_tick-commanded.new.self.ctl) (ap (λ (u : SchedulerState). u.shape.tick) c.begin-running.ensures.same)
    (c.begin_tick-commanded.ensures.pending c.pick.new.e ((picked_bill c.settle-done.new.self c.args.entries.now c.args.cpu c.bill_of-e.result.to c.bill_of-e.result c.settle-done.result _ c.pick.ensures.same).to ∙ c.bill_of-e.ensures.to)))

pub returns-clause-counts : goal.returns-clause-counts
returns-clause-counts c =
    let s2 = c.begin_tick-commanded.new.self.machine in
    let e = c.bill_of-e.result in
    let b : IsBilling c.args.scenario.now c.args.self.now.machine c.args.entries.now c.args.cpu c.of-now.result c.last_end-from.result c.tick_of-tick.result c.begin-running.result c.begin-running.new.self s2 e =
    billing (c.of-now.ensures ∙ c.requires.after.nexts c.args.cpu c.requires.ready.exists) c.last_end-from.ensures.same c.begin-running.ensures.running c.begin-running.ensures.same
    c.begin_tick-commanded.ensures.same c.bill_of-e.ensures.same c.bill_of-e.ensures.from c.bill_of-e.ensures.to c.tick_of-tick.ensures.same in
    let before = c.begin_tick-commanded.ensures.counts in
    let with_bill =
    counted_as s2.shape c.shape.result.now c.args.entries.now (c.of-now.result / c.begin-running.new.self.shape.tick) c.begin_tick-commanded.new.self.window c.add_time.new.window e c.shape.ensures.same
    c.add_time.ensures.counts before in
    let spent : c.bill.new.self.shape ≡ s2.shape = spent_shape c.begin_tick-commanded.new.self.machine e c.begin-running.result c.bill.new.self c.bill.ensures in
    let tested = tested_shape c.bill.new.self c.args.entries.now e c.test-reboot.new.self c.test-reboot.result c.test-reboot.ensures in
    let settled = settled_shape c.args.scenario.now c.test-reboot.new.self c.of-now.result c.begin-running.result _ c.settle-done.ensures in
    subst (λ (u : Scheduler). Counts c.pick.new.self.machine.shape (c.args.entries.now ++ c.pick.new.e ∷ []) (c.pick.new.e.to / c.pick.new.self.machine.shape.tick) u.window) (sym c.pick.ensures.others)
    (counts_left c.args.scenario.now c.args.self.now.machine c.args.entries.now c.args.cpu c.of-now.result c.last_end-from.result c.tick_of-tick.result c.begin-running.result c.begin-running.new.self s2 e c.add_time.new.window
    c.requires.ready b with_bill c.pick.new.self.machine c.pick.new.e (c.pick.ensures.kept.shape ∙ settled ∙ tested ∙ spent) (picked_bill c.settle-done.new.self c.args.entries.now c.args.cpu c.bill_of-e.result.to c.bill_of-e.result c.settle-done.result _ c.pick.ensures.same))

pub pick-requires-clause-dues : goal.pick-requires-clause-dues
pick-requires-clause-dues c =
    let s = c.args.self.now.machine in
    let h = c.args.entries.now in
    let before =
    settled_by c.args.scenario.now s h c.args.cpu c.of-now.result c.begin-running.result c.bill_of-e.result c.test-reboot.new.self c.test-reboot.result _
    (tested_by c.args.scenario.now s h c.args.cpu _ _ _ _ _ _ _ _ _
    (c.of-now.ensures ∙ c.requires.after.nexts c.args.cpu c.requires.ready.exists) c.last_end-from.ensures.same c.begin-running.ensures.running c.begin-running.ensures.same c.begin_tick-commanded.ensures.same c.bill_of-e.ensures.same c.bill.ensures c.test-reboot.ensures)
    c.settle-done.ensures in
    λ d inside ne.
    let there = ap (λ (u : SchedulerState). length u.cpus) before in
    ap (λ (u : Scheduler). slice_index u.dues d) c.begin_tick-commanded.ensures.others
    ∙ c.requires.after.nexts d (omega (arith, inside, there, c.requires.ready.counted)) ∙ sym (c.requires.ready.others d ne) ∙ ap (λ (u : SchedulerState). due u h d) (sym before)

pub pick-requires-clause-spare : goal.pick-requires-clause-spare
pick-requires-clause-spare c d past =
    let s = c.args.self.now.machine in
    let h = c.args.entries.now in
    let before =
    settled_by c.args.scenario.now s h c.args.cpu c.of-now.result c.begin-running.result c.bill_of-e.result c.test-reboot.new.self c.test-reboot.result _
    (tested_by c.args.scenario.now s h c.args.cpu _ _ _ _ _ _ _ _ _
    (c.of-now.ensures ∙ c.requires.after.nexts c.args.cpu c.requires.ready.exists) c.last_end-from.ensures.same c.begin-running.ensures.running c.begin-running.ensures.same c.begin_tick-commanded.ensures.same c.bill_of-e.ensures.same c.bill.ensures c.test-reboot.ensures)
    c.settle-done.ensures in
    let there = ap (λ (u : SchedulerState). length u.cpus) before in
    ap (λ (u : Scheduler). slice_index u.dues d) c.begin_tick-commanded.ensures.others
    ∙ c.requires.after.spare d (omega (arith, past, there, c.requires.ready.counted))

pub returns-then-is_over-clause-flagged : goal.returns-then-is_over-clause-flagged
returns-then-is_over-clause-flagged c =
    let nobody : c.bill_of-e.result.flagged ≡ None =
    ap (λ (e : Entry). e.flagged) c.bill_of-e.ensures.same ∙ unflagged_bill c.args.cpu c.last_end-from.result c.of-now.result c.begin-running.result in
    subst (λ o. IfSome o (λ d. d < length c.test-reboot.new.self.cpus)) (sym nobody) tt

-- ---- the queues

pub sync_all-requires-clause-count : goal.sync_all-requires-clause-count
sync_all-requires-clause-count c =
    let b =
    tested_by c.args.scenario.now c.args.self.now.machine c.args.entries.now c.args.cpu _ _ _ _ _ _ _ _ _
    (c.of-now.ensures ∙ c.requires.after.nexts c.args.cpu c.requires.ready.exists) c.last_end-from.ensures.same c.begin-running.ensures.running c.begin-running.ensures.same c.begin_tick-commanded.ensures.same c.bill_of-e.ensures.same c.bill.ensures c.test-reboot.ensures in
    ap (λ (u : Scheduler). length u.ready) c.begin_tick-commanded.ensures.others ∙ ap length c.requires.after.seats ∙ seats_count c.args.self.now.machine ∙ sym c.requires.ready.count_billed
    ∙ ap (λ (s : SchedulerState). length s.threads) (sym (billed_by c.args.scenario.now c.args.self.now.machine c.args.entries.now c.args.cpu _ _ _ _ _ b))

pub sync-requires-clause-count : goal.sync-requires-clause-count
sync-requires-clause-count c =
    let b =
    tested_by c.args.scenario.now c.args.self.now.machine c.args.entries.now c.args.cpu _ _ _ _ _ _ _ _ _
    (c.of-now.ensures ∙ c.requires.after.nexts c.args.cpu c.requires.ready.exists) c.last_end-from.ensures.same c.begin-running.ensures.running c.begin-running.ensures.same c.begin_tick-commanded.ensures.same c.bill_of-e.ensures.same c.bill.ensures c.test-reboot.ensures in
    ap (λ (u : Scheduler). length u.ready) c.begin_tick-commanded.ensures.others ∙ ap length c.requires.after.seats ∙ seats_count c.args.self.now.machine ∙ sym c.requires.ready.count_settled
    ∙ ap (λ (s : SchedulerState). length s.threads)
    (sym (settled_by c.args.scenario.now c.args.self.now.machine c.args.entries.now c.args.cpu _ _ _ _ _ _ b c.settle-done.ensures))

-- who ran is told by the entry
ran : (c from now : ℕ) (running : Option Pick) → (bill_of c from now running).ran ≡ option_map (λ (p : Pick). p.thread) running
ran c from now None = refl
ran c from now (Some p) = refl

pub sync-requires-clause-tied : goal.sync-requires-clause-tied
sync-requires-clause-tied c idle calm y apart =
    let b =
    tested_by c.args.scenario.now c.args.self.now.machine c.args.entries.now c.args.cpu _ _ _ _ _ _ _ _ _
    (c.of-now.ensures ∙ c.requires.after.nexts c.args.cpu c.requires.ready.exists) c.last_end-from.ensures.same c.begin-running.ensures.running c.begin-running.ensures.same c.begin_tick-commanded.ensures.same c.bill_of-e.ensures.same c.bill.ensures c.test-reboot.ensures in
    let billed = billed_by c.args.scenario.now c.args.self.now.machine c.args.entries.now c.args.cpu _ _ _ _ _ b in
    let own : c.bill_of-e.result.ran ≡ option_map (λ (p : Pick). p.thread) c.begin-running.result =
    ap (λ (e : Entry). e.ran) c.bill_of-e.ensures.same ∙ ran c.args.cpu c.last_end-from.result c.of-now.result c.begin-running.result in
    ap (λ (u : Scheduler). who_at u.ready y) c.begin_tick-commanded.ensures.others ∙ ap (λ (l : List (Option Contender)). who_at l y) c.requires.after.seats ∙ who_seats c.args.self.now.machine y
    ∙ sym (step_seat c.args.scenario.now c.args.self.now.machine c.args.entries.now c.args.cpu c.of-now.result y _ c.begin-running.result c.bill_of-e.result _ _ _ _ c.test-reboot.result
    (record { state = c.settle-done.new.self; done = c.settle-done.result }) c.begin_tick-commanded.new.self.woken
    c.begin-running.ensures.same (c.begin_tick-commanded.ensures.idle idle y) c.bill.ensures c.test-reboot.ensures c.settle-done.ensures
    (λ p runs. subst (λ (s : SchedulerState). IsNobodysClient s.triples p.thread) (sym billed) (c.requires.ready.free_billed p (sym c.begin-running.ensures.running ∙ runs)))
    calm
    (subst (λ o. IsTouched c.begin_tick-commanded.new.self.woken o (peer_of c.settle-done.result) (is_at_channel c.settle-done.result) c.settle-done.new.self.triples y → ⊥) own apart))

pub sync-requires-clause-out : goal.sync-requires-clause-out
sync-requires-clause-out c y own =
    let who : c.bill_of-e.result.ran ≡ option_map (λ (p : Pick). p.thread) c.begin-running.result =
    ap (λ (e : Entry). e.ran) c.bill_of-e.ensures.same ∙ ran c.args.cpu c.last_end-from.result c.of-now.result c.begin-running.result in
    ap (λ (u : Scheduler). who_at u.ready y) c.begin_tick-commanded.ensures.others ∙ ap (λ (l : List (Option Contender)). who_at l y) c.requires.after.seats
    ∙ who_seats c.args.self.now.machine y
    ∙ running_out c.args.self.now.machine c.args.cpu y c.begin-running.result c.requires.ready.runs (sym c.begin-running.ensures.running) (sym who ∙ own)

-- ---- how the partitions stand, and what a calm step leaves

none_recorded : (before after : ℕ) (s t : SchedulerState) → before ≡ length s.changes → after ≡ length t.changes → nat_lt before after ≡ false → length t.changes ≤ length s.changes
none_recorded before after s t was is calm = grind (arith, nat_tests, was, is, calm)

pub stand_by-requires : goal.stand_by-requires
stand_by-requires c still =
    let calm = neither c.go_on-is_later.result (c.begin_tick-commanded.result || nat_lt c.change_count-changes.result c.change_count.result) still in
    let both = neither c.begin_tick-commanded.result (nat_lt c.change_count-changes.result c.change_count.result) calm.1 in
    let kept = calm_kept c.args.self.now.machine c.args.entries.now c.args.cpu c.begin-running.result c.begin-running.new.self c.begin_tick-commanded.new.self.machine c.bill.new.self c.test-reboot.new.self c.bill_of-e.result c.test-reboot.result
    c.begin-running.ensures.same (c.begin_tick-commanded.ensures.kept both.0) c.bill.ensures c.test-reboot.ensures
    (none_recorded c.change_count-changes.result c.change_count.result c.bill.new.self c.test-reboot.new.self c.change_count-changes.ensures c.change_count.ensures both.1) in
    subst (λ (u : Scheduler). DoOthersStand c.bill_of-e.result.billed c.test-reboot.new.self.shape c.test-reboot.new.self.rows c.add_time.new.window u.standing) (sym c.begin_tick-commanded.ensures.others)
    (others_stand c.bill_of-e.result.billed c.args.self.now.machine.shape c.test-reboot.new.self.shape c.args.self.now.machine.rows c.test-reboot.new.self.rows c.args.self.now.window c.add_time.new.window c.args.self.now.standing
    c.requires.after.stands kept.shape kept.rows
    (λ p apart. c.add_time.ensures.others p apart ∙ ap (λ (w : Window). total_of w p) (c.begin_tick-commanded.ensures.window both.0 ∙ c.go_on-is_later.ensures.stays calm.0)))

pub returns-then-is_over-clause-kept : goal.returns-then-is_over-clause-kept
returns-then-is_over-clause-kept c calm =
    let both = neither c.begin_tick-commanded.result (nat_lt c.change_count-changes.result c.change_count.result) calm in
    calm_kept c.args.self.now.machine c.args.entries.now c.args.cpu c.begin-running.result c.begin-running.new.self c.begin_tick-commanded.new.self.machine c.bill.new.self c.test-reboot.new.self c.bill_of-e.result c.test-reboot.result
    c.begin-running.ensures.same (c.begin_tick-commanded.ensures.kept both.0) c.bill.ensures c.test-reboot.ensures
    (none_recorded c.change_count-changes.result c.change_count.result c.bill.new.self c.test-reboot.new.self c.change_count-changes.ensures c.change_count.ensures both.1)

pub returns-clause-kept : goal.returns-clause-kept
returns-clause-kept c calm =
    let both = neither c.begin_tick-commanded.result (nat_lt c.change_count-changes.result c.change_count.result) calm in
    let settled : KeepsFrame c.test-reboot.new.self c.settle-done.new.self =
    subst (λ (x : Effect). KeepsFrame c.test-reboot.new.self x.state) c.settle-done.ensures (settled_kept c.args.scenario.now c.test-reboot.new.self c.of-now.result c.begin-running.result) in
    kept_then
    (calm_kept c.args.self.now.machine c.args.entries.now c.args.cpu c.begin-running.result c.begin-running.new.self c.begin_tick-commanded.new.self.machine c.bill.new.self c.test-reboot.new.self c.bill_of-e.result c.test-reboot.result
    c.begin-running.ensures.same (c.begin_tick-commanded.ensures.kept both.0) c.bill.ensures c.test-reboot.ensures
    (none_recorded c.change_count-changes.result c.change_count.result c.bill.new.self c.test-reboot.new.self c.change_count-changes.ensures c.change_count.ensures both.1))
    (kept_then settled c.pick.ensures.kept)

pub returns-clause-stands : goal.returns-clause-stands
returns-clause-stands c =
    let settled : KeepsFrame c.test-reboot.new.self c.settle-done.new.self =
    subst (λ (x : Effect). KeepsFrame c.test-reboot.new.self x.state) c.settle-done.ensures (settled_kept c.args.scenario.now c.test-reboot.new.self c.of-now.result c.begin-running.result) in
    let after = kept_then settled c.pick.ensures.kept in
    subst (λ (u : Scheduler). u.standing ≡ parts_in c.pick.new.self.machine.shape c.pick.new.self.machine.rows u.window) (sym c.pick.ensures.others)
    (c.stand_by.ensures.same ∙ (λ i. parts_in (sym after.shape i) (sym after.rows i) c.add_time.new.window))

pub returns-then-is_over-clause-same : goal.returns-then-is_over-clause-same
returns-then-is_over-clause-same c =
    let b =
    tested_by c.args.scenario.now c.args.self.now.machine c.args.entries.now c.args.cpu _ _ _ _ _ _ _ _ _
    (c.of-now.ensures ∙ c.requires.after.nexts c.args.cpu c.requires.ready.exists) c.last_end-from.ensures.same c.begin-running.ensures.running c.begin-running.ensures.same c.begin_tick-commanded.ensures.same c.bill_of-e.ensures.same c.bill.ensures c.test-reboot.ensures in
    elim (c.is_over.ensures.over c.if-is_over.true) [
      | inl rebooted ↦ step_over c.args.scenario.now c.args.self.now.machine c.args.entries.now c.args.cpu _ _ _ _ c.test-reboot.result b rebooted
      | inr end ↦
          step_at_horizon c.args.scenario.now c.args.self.now.machine c.args.entries.now c.args.cpu _ _ _ _ c.test-reboot.result b end.0 end.1
          ∙ ap (λ (o : Option ℕ). record { entry = c.bill_of-e.result; state = c.test-reboot.new.self; reboot = o }) (sym end.0)
    ]

pub settle-done-requires-clause-now : goal.settle-done-requires-clause-now
settle-done-requires-clause-now c = rw (c.of-now.ensures ∙ c.requires.after.nexts c.args.cpu c.requires.ready.exists) c.requires.ready.early

pub pick-requires-clause-cpu : goal.pick-requires-clause-cpu
pick-requires-clause-cpu c =
    let b =
    tested_by c.args.scenario.now c.args.self.now.machine c.args.entries.now c.args.cpu _ _ _ _ _ _ _ _ _
    (c.of-now.ensures ∙ c.requires.after.nexts c.args.cpu c.requires.ready.exists) c.last_end-from.ensures.same c.begin-running.ensures.running c.begin-running.ensures.same c.begin_tick-commanded.ensures.same c.bill_of-e.ensures.same c.bill.ensures c.test-reboot.ensures in
    let before = settled_by c.args.scenario.now c.args.self.now.machine c.args.entries.now c.args.cpu _ _ _ _ _ _ b c.settle-done.ensures in
    let there = c.requires.ready.exists_settled in
    omega (arith, there, ap (λ (s : SchedulerState). length s.cpus) before)

pub sync_all-requires-clause-stamped : goal.sync_all-requires-clause-stamped
sync_all-requires-clause-stamped c =
    let b =
    tested_by c.args.scenario.now c.args.self.now.machine c.args.entries.now c.args.cpu _ _ _ _ _ _ _ _ _
    (c.of-now.ensures ∙ c.requires.after.nexts c.args.cpu c.requires.ready.exists) c.last_end-from.ensures.same c.begin-running.ensures.running c.begin-running.ensures.same c.begin_tick-commanded.ensures.same c.bill_of-e.ensures.same c.bill.ensures c.test-reboot.ensures in
    subst (λ (s : SchedulerState). IsStamped s.threads s.stamps)
    (sym (billed_by c.args.scenario.now c.args.self.now.machine c.args.entries.now c.args.cpu _ _ _ _ _ b)) c.requires.ready.stamped_billed

pub sync-requires-clause-stamped : goal.sync-requires-clause-stamped
sync-requires-clause-stamped c =
    let b =
    tested_by c.args.scenario.now c.args.self.now.machine c.args.entries.now c.args.cpu _ _ _ _ _ _ _ _ _
    (c.of-now.ensures ∙ c.requires.after.nexts c.args.cpu c.requires.ready.exists) c.last_end-from.ensures.same c.begin-running.ensures.running c.begin-running.ensures.same c.begin_tick-commanded.ensures.same c.bill_of-e.ensures.same c.bill.ensures c.test-reboot.ensures in
    subst (λ (s : SchedulerState). IsStamped s.threads s.stamps)
    (sym (settled_by c.args.scenario.now c.args.self.now.machine c.args.entries.now c.args.cpu _ _ _ _ _ _ b c.settle-done.ensures)) c.requires.ready.stamped_settled

-- ---- the timer

pub returns-then-is_over-clause-timed : goal.returns-then-is_over-clause-timed
returns-then-is_over-clause-timed c =
    tested_timer c.begin_tick-commanded.new.self.machine c.bill.new.self c.test-reboot.new.self c.args.entries.now c.bill_of-e.result c.begin-running.result c.test-reboot.result c.begin_tick-commanded.new.self.timer
    c.begin_tick-commanded.ensures.timed c.bill.ensures c.test-reboot.ensures

pub time_done-requires-clause-count : goal.time_done-requires-clause-count
time_done-requires-clause-count c =
    let settled : KeepsFrame c.test-reboot.new.self c.settle-done.new.self =
    subst (λ (x : Effect). KeepsFrame c.test-reboot.new.self x.state) c.settle-done.ensures (settled_kept c.args.scenario.now c.test-reboot.new.self c.of-now.result c.begin-running.result) in
    let timed =
    tested_timer c.begin_tick-commanded.new.self.machine c.bill.new.self c.test-reboot.new.self c.args.entries.now c.bill_of-e.result c.begin-running.result c.test-reboot.result c.begin_tick-commanded.new.self.timer
    c.begin_tick-commanded.ensures.timed c.bill.ensures c.test-reboot.ensures in
    ap length timed ∙ sleepers_count c.test-reboot.new.self ∙ sym settled.threads

pub time_done-requires-clause-out : goal.time_done-requires-clause-out
time_done-requires-clause-out c y own =
    let b =
    tested_by c.args.scenario.now c.args.self.now.machine c.args.entries.now c.args.cpu _ _ _ _ _ _ _ _ _
    (c.of-now.ensures ∙ c.requires.after.nexts c.args.cpu c.requires.ready.exists) c.last_end-from.ensures.same c.begin-running.ensures.running c.begin-running.ensures.same c.begin_tick-commanded.ensures.same c.bill_of-e.ensures.same c.bill.ensures c.test-reboot.ensures in
    let billed = billed_by c.args.scenario.now c.args.self.now.machine c.args.entries.now c.args.cpu _ _ _ _ _ b in
    let who : c.bill_of-e.result.ran ≡ option_map (λ (p : Pick). p.thread) c.begin-running.result =
    ap (λ (e : Entry). e.ran) c.bill_of-e.ensures.same ∙ ran c.args.cpu c.last_end-from.result c.of-now.result c.begin-running.result in
    let timed =
    tested_timer c.begin_tick-commanded.new.self.machine c.bill.new.self c.test-reboot.new.self c.args.entries.now c.bill_of-e.result c.begin-running.result c.test-reboot.result c.begin_tick-commanded.new.self.timer
    c.begin_tick-commanded.ensures.timed c.bill.ensures c.test-reboot.ensures in
    running_awake c.test-reboot.new.self c.args.cpu y c.begin_tick-commanded.new.self.timer c.begin-running.result timed
    (λ p runs. ap (λ (s : SchedulerState). (thread_at s p.thread).state) billed ∙ c.requires.ready.runs_billed p (sym c.begin-running.ensures.running ∙ runs))
    (sym who ∙ own)

pub time_done-requires-clause-tied : goal.time_done-requires-clause-tied
time_done-requires-clause-tied c calm y own peer =
    let who : c.bill_of-e.result.ran ≡ option_map (λ (p : Pick). p.thread) c.begin-running.result =
    ap (λ (e : Entry). e.ran) c.bill_of-e.ensures.same ∙ ran c.args.cpu c.last_end-from.result c.of-now.result c.begin-running.result in
    let timed =
    tested_timer c.begin_tick-commanded.new.self.machine c.bill.new.self c.test-reboot.new.self c.args.entries.now c.bill_of-e.result c.begin-running.result c.test-reboot.result c.begin_tick-commanded.new.self.timer
    c.begin_tick-commanded.ensures.timed c.bill.ensures c.test-reboot.ensures in
    settled_timer c.args.scenario.now c.test-reboot.new.self c.of-now.result y c.begin-running.result (record { state = c.settle-done.new.self; done = c.settle-done.result }) c.begin_tick-commanded.new.self.timer
    timed c.settle-done.ensures calm (subst (λ o. o ≢ Some y) who own) peer

pub returns-clause-timed : goal.returns-clause-timed
returns-clause-timed c =
    ap (λ (u : Scheduler). u.timer) c.pick.ensures.others ∙ c.time_done.ensures ∙ sym (picked_sleepers c.settle-done.new.self c.args.entries.now c.args.cpu _ _) ∙ ap (λ (out : Step). sleepers_of out.state) c.pick.ensures.same

-- ---- what each processor runs

pub post_others-requires : goal.post_others-requires
post_others-requires c idle alone =
    let s = c.args.self.now.machine in
    let h = c.args.entries.now in
    let b =
    tested_by c.args.scenario.now s h c.args.cpu _ _ _ _ _ _ _ _ _
    (c.of-now.ensures ∙ c.requires.after.nexts c.args.cpu c.requires.ready.exists) c.last_end-from.ensures.same c.begin-running.ensures.running c.begin-running.ensures.same c.begin_tick-commanded.ensures.same c.bill_of-e.ensures.same c.bill.ensures c.test-reboot.ensures in
    let billed = billed_by c.args.scenario.now s h c.args.cpu _ _ _ _ _ b in
    let before = settled_by c.args.scenario.now s h c.args.cpu c.of-now.result c.begin-running.result c.bill_of-e.result c.test-reboot.new.self c.test-reboot.result _ b c.settle-done.ensures in
    let posted = subst (λ (u : Scheduler). ArePosts s u.posts) (sym c.begin_tick-commanded.ensures.others) c.requires.after.posted in
    posts_stay s c.settle-done.new.self c.args.cpu c.begin_tick-commanded.new.self.posts
    (ap (λ (u : SchedulerState). length u.cpus) before ∙ c.requires.ready.counted)
    (λ d ne. ap (λ (u : SchedulerState). cpu_at u d) before ∙ c.requires.ready.same_cpu d ne)
    (λ d q ne other.
    step_facts c.args.scenario.now s h c.args.cpu c.of-now.result q.thread _ c.begin-running.result c.bill_of-e.result _ _ _ _ c.test-reboot.result
    (record { state = c.settle-done.new.self; done = c.settle-done.result })
    c.begin-running.ensures.same (c.begin_tick-commanded.ensures.facts idle q.thread) c.bill.ensures c.test-reboot.ensures c.settle-done.ensures
    (λ p runs. subst (λ (u : SchedulerState). IsNobodysClient u.triples p.thread) (sym billed) (c.requires.ready.free_billed p (sym c.begin-running.ensures.running ∙ runs)))
    (λ p runs. runs_apart s c.args.cpu d p q c.requires.ready.runs ne (sym c.begin-running.ensures.running ∙ runs) other)
    alone)
    (λ d inside ne. posted d inside)

-- ---- the ends and the dues

pub pick-requires-clause-own : goal.pick-requires-clause-own
pick-requires-clause-own c =
    omega (arith, ap (λ (u : Scheduler). slice_index u.dues c.args.cpu) c.begin_tick-commanded.ensures.others, c.of-now.ensures, c.bill_of-e.ensures.to)

pub returns-then-is_over-clause-ends : goal.returns-then-is_over-clause-ends
returns-then-is_over-clause-ends c =
    c.add.ensures c.args.entries.now (subst (λ (u : Scheduler). AreEnds c.args.entries.now u.ends) (sym c.begin_tick-commanded.ensures.others) c.requires.after.lasts)

pub returns-clause-ends : goal.returns-clause-ends
returns-clause-ends c =
    c.add-2.ensures c.args.entries.now
    (subst (λ (u : Scheduler). AreEnds c.args.entries.now u.ends) (sym c.pick.ensures.others)
    (subst (λ (u : Scheduler). AreEnds c.args.entries.now u.ends) (sym c.begin_tick-commanded.ensures.others) c.requires.after.lasts))

pub returns-then-is_over-clause-dues : goal.returns-then-is_over-clause-dues
returns-then-is_over-clause-dues c = ap (λ (u : Scheduler). u.dues) c.begin_tick-commanded.ensures.others

pub returns-clause-dues : goal.returns-clause-dues
returns-clause-dues c = ap (λ (u : Scheduler). u.dues) c.pick.ensures.others ∙ ap (λ (u : Scheduler). u.dues) c.begin_tick-commanded.ensures.others
