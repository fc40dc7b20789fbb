use Rattle.std.proofs.Common.{ℕ, length, ◌∙◌, sym, ap, subst, arith}
use Rattle.aps_model.specs.Inherit.{facts_of}
use Rattle.aps_model.specs.SchedulerState.{SchedulerState}
use Rattle.aps_ctl.specs.Pending.{all_at}
use Rattle.aps_model.specs.TickWork.{wake_all}
use Rattle.aps_core.specs.Kept.{KeepsFrame}
use Rattle.aps_core.specs.Room.{HasRoomToWake, last_place, stamps_before}
use Rattle.aps_core.specs.Seats.{seat_at}
use Rattle.aps_core.specs.Sleepers.{sleepers_of}
use Rattle.aps_core.proofs.Commands.{commands_room}
use Rattle.aps_core.proofs.Counting.{counts_like}
use Rattle.aps_core.proofs.FactsStay.{wakes_facts}
use Rattle.aps_core.proofs.Frame.{ticked_lists, wake_kept}
use Rattle.aps_core.proofs.Pending.{pending_begun, tick_started}
use Rattle.aps_core.proofs.SeatsStay.{wakes_seats}
use Rattle.aps_core.proofs.SleepersStay.{commands_sleepers}
use Rattle.aps_core.proofs.scheduler.Scheduler.work_tick.Goals as goal

pub do_commands-commanded-requires-clause-calls : goal.do_commands-commanded-requires-clause-calls
do_commands-commanded-requires-clause-calls c =
    let works = sym c.has_tick_work.ensures ∙ c.if-has_tick_work.true in
    (tick_started c.args.scenario.now c.args.self.now.machine c.args.entries.now c.args.now c.args.tick c.args.self.now.ctl c.requires.valid works c.requires.at_hand c.requires.pending).calls

pub do_commands-commanded-requires-clause-replies : goal.do_commands-commanded-requires-clause-replies
do_commands-commanded-requires-clause-replies c =
    let works = sym c.has_tick_work.ensures ∙ c.if-has_tick_work.true in
    let started = tick_started c.args.scenario.now c.args.self.now.machine c.args.entries.now c.args.now c.args.tick c.args.self.now.ctl c.requires.valid works c.requires.at_hand c.requires.pending in
    let lists = ticked_lists c.args.scenario.now c.args.self.now.machine c.args.entries.now c.args.now c.args.tick works c.requires.at_hand in
    let same = lists.replies in
    let few = c.requires.replies in
    let done = ap (λ (s : SchedulerState). length s.replies) started.done in
    omega (arith, same, few, done)

pub do_commands-commanded-requires-clause-changes : goal.do_commands-commanded-requires-clause-changes
do_commands-commanded-requires-clause-changes c =
    let works = sym c.has_tick_work.ensures ∙ c.if-has_tick_work.true in
    let started = tick_started c.args.scenario.now c.args.self.now.machine c.args.entries.now c.args.now c.args.tick c.args.self.now.ctl c.requires.valid works c.requires.at_hand c.requires.pending in
    let lists = ticked_lists c.args.scenario.now c.args.self.now.machine c.args.entries.now c.args.now c.args.tick works c.requires.at_hand in
    let same = lists.changes in
    let few = c.requires.changes in
    let done = ap (λ (s : SchedulerState). length s.changes) started.done in
    omega (arith, same, few, done)

pub wake_all-requires-clause-room : goal.wake_all-requires-clause-room
wake_all-requires-clause-room c =
    let place : ℕ = last_place in
    let stamp : ℕ = stamps_before in
    subst (HasRoomToWake place stamp) (sym c.do_commands-commanded.ensures.same)
    (commands_room place stamp c.args.entries.now c.args.tick (all_at c.args.tick c.args.self.now.ctl) c.args.self.now.machine c.requires.room)

pub returns-then-has_tick_work-clause-idle : goal.returns-then-has_tick_work-clause-idle
returns-then-has_tick_work-clause-idle c quiet x asleep =
    let same = (c.do_commands-commanded.ensures.idle quiet).0 in
    wakes_seats c.args.scenario.now c.args.now x c.wake_all.new.woken c.do_commands-commanded.new.self c.wake_all.new.self c.wake_all.ensures.same c.wake_all.ensures.woken asleep
    ∙ ap (λ (s : SchedulerState). seat_at s x) same

pub returns-then-has_tick_work-clause-facts : goal.returns-then-has_tick_work-clause-facts
returns-then-has_tick_work-clause-facts c quiet x =
    wakes_facts c.args.scenario.now c.args.now x c.do_commands-commanded.new.self c.wake_all.new.self c.wake_all.ensures.same
    ∙ ap (λ (s : SchedulerState). facts_of s x) (c.do_commands-commanded.ensures.idle quiet).0

pub returns-then-has_tick_work-clause-pending : goal.returns-then-has_tick_work-clause-pending
returns-then-has_tick_work-clause-pending c e to =
    let works = sym c.has_tick_work.ensures ∙ c.if-has_tick_work.true in
    let started = tick_started c.args.scenario.now c.args.self.now.machine c.args.entries.now c.args.now c.args.tick c.args.self.now.ctl c.requires.valid works c.requires.at_hand c.requires.pending in
    pending_begun c.args.scenario.now c.args.self.now.machine.shape.tick c.args.entries.now e c.args.now c.args.tick c.args.self.now.ctl c.do_commands-commanded.new.ctl started.at to c.do_commands-commanded.ensures.others c.requires.pending

pub returns-then-has_tick_work-clause-counts : goal.returns-then-has_tick_work-clause-counts
returns-then-has_tick_work-clause-counts c =
    counts_like c.do_commands-commanded.new.self.shape _ c.args.entries.now c.args.tick _ c.do_commands-commanded.new.window c.do_commands-commanded.ensures.counts
    (ap (λ (s : SchedulerState). s.shape) c.wake_all.ensures.same ∙ (wake_kept c.args.scenario.now c.args.now c.do_commands-commanded.new.self).shape)
    (sym c.requires.at_hand)

pub returns-then-has_tick_work-clause-kept : goal.returns-then-has_tick_work-clause-kept
returns-then-has_tick_work-clause-kept c quiet =
    subst (KeepsFrame c.args.self.now.machine) (sym c.wake_all.ensures.same)
    (subst (λ s. KeepsFrame s (wake_all c.args.scenario.now c.args.now c.do_commands-commanded.new.self)) (c.do_commands-commanded.ensures.idle quiet).0
    (wake_kept c.args.scenario.now c.args.now c.do_commands-commanded.new.self))

pub returns-then-has_tick_work-clause-window : goal.returns-then-has_tick_work-clause-window
returns-then-has_tick_work-clause-window c quiet = (c.do_commands-commanded.ensures.idle quiet).1

pub wake_all-requires-clause-timed : goal.wake_all-requires-clause-timed
wake_all-requires-clause-timed c =
    c.requires.timed ∙ sym (ap sleepers_of c.do_commands-commanded.ensures.same ∙ commands_sleepers c.args.entries.now c.args.tick c.args.self.now.machine c.args.self.now.ctl)
