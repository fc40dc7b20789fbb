use Rattle.std.proofs.Common.{◌≡◌, ◌/◌, ◌∙◌, length, slice_index, arith, refl, [], ◌∷◌, ◌++◌, ap, IfSome, None, subst, sym}
use Rattle.aps_model.specs.After.{After}
use Rattle.aps_model.specs.Due.{due, last_to}
use Rattle.aps_model.specs.History.{History}
use Rattle.aps_model.specs.Scenario.{Scenario}
use Rattle.aps_model.specs.Valid.{IsScenario}
use Rattle.laws_runs.specs.Moments.{moment}
use Rattle.laws_runs.proofs.MomentLaws.{last_own, moment-append}
use Rattle.aps_core.specs.Core.{IsCoreWith}
use Rattle.aps_core.specs.Counts.{Counts}
use Rattle.aps_core.specs.CoreView.{run_of_core}
use Rattle.aps_core.specs.LastEnds.{AreEnds}
use Rattle.aps_core.specs.NextDues.{AreDues, dues_after}
use Rattle.aps_core.specs.Pending.{IsPending}
use Rattle.aps_core.specs.Rising.{IsRising}
use Rattle.aps_core.specs.Run.{end_of_run}
use Rattle.aps_core.specs.Scheduler.{IsSchedulerAfter}
use Rattle.aps_core.specs.declared.turn.Turn.TheVariants.{Took}
use Rattle.aps_core.specs.Turn.{HasTurnIn, IsFed}
use Rattle.aps_core.proofs.Counting.{counts_like}
use Rattle.aps_core.proofs.DuesKept.{cpus_after, cpus_now, dues_more, own_within}
use Rattle.aps_core.proofs.Kept.{can_record_in, core_kept, entry_fits, fed_in, own_entry, ready_in, step_read, tick_of_core, told_in}
use Rattle.aps_core.proofs.NextDues.{spare_after}
use Rattle.aps_core.proofs.Rising.{rising_law}
use Rattle.aps_core.proofs.simulator.Core.take_turn.Goals as goal

pub step-made-requires-clause-ready : goal.step-made-requires-clause-ready
step-made-requires-clause-ready c =
    let goes_on = subst (λ run. end_of_run run ≡ None) (sym c.self.view_is) c.requires.goes_on in
    let turn = subst (λ run. HasTurnIn run c.args.cpu) (sym c.self.view_is) c.requires.turn in
    rw (c.scenario.ensures, c.entries.ensures.same)
    (ready_in (run_of_core c.self.inside) c.self.inside.history c.self.inside.scheduler.machine c.args.cpu c.self.invariant.core goes_on turn)

pub step-made-requires-clause-rising : goal.step-made-requires-clause-rising
step-made-requires-clause-rising c =
    let run = c.self.invariant.core.keeps in
    subst IsRising (sym c.entries.ensures.same) (rising_law c.self.inside.history.scenario c.self.inside.order run.setup.valid c.self.inside.history.entries run.legal)

pub record-requires-clause-entry : goal.record-requires-clause-entry
record-requires-clause-entry c =
    entry_fits (run_of_core c.self.inside) c.self.inside.history c.self.inside.scheduler.machine c.args.cpu c.step-made.result.entry (record { state = c.step-made.new.self.machine; reboot = c.step-made.result.reboot }) c.self.invariant.core
    (subst (λ run. end_of_run run ≡ None) (sym c.self.view_is) c.requires.goes_on)
    (subst (λ run. HasTurnIn run c.args.cpu) (sym c.self.view_is) c.requires.turn)
    (step_read _ _ c.self.inside.scheduler.machine _ _ c.args.cpu _ c.scenario.ensures c.entries.ensures.same c.step-made.ensures.same)

pub record-requires-clause-machine : goal.record-requires-clause-machine
record-requires-clause-machine c =
    can_record_in (run_of_core c.self.inside) c.self.inside.history c.self.inside.scheduler.machine c.args.cpu c.step-made.result.entry (record { state = c.step-made.new.self.machine; reboot = c.step-made.result.reboot }) c.self.invariant.core
    (subst (λ run. end_of_run run ≡ None) (sym c.self.view_is) c.requires.goes_on)
    (subst (λ run. HasTurnIn run c.args.cpu) (sym c.self.view_is) c.requires.turn)
    (step_read _ _ c.self.inside.scheduler.machine _ _ c.args.cpu _ c.scenario.ensures c.entries.ensures.same c.step-made.ensures.same)

pub returns-clause-own : goal.returns-clause-own
returns-clause-own c =
    own_entry (run_of_core c.self.inside) c.self.inside.history c.self.inside.scheduler.machine c.args.cpu c.step-made.result.entry (record { state = c.step-made.new.self.machine; reboot = c.step-made.result.reboot }) c.self.invariant.core
    (subst (λ run. end_of_run run ≡ None) (sym c.self.view_is) c.requires.goes_on)
    (subst (λ run. HasTurnIn run c.args.cpu) (sym c.self.view_is) c.requires.turn)
    (step_read _ _ c.self.inside.scheduler.machine _ _ c.args.cpu _ c.scenario.ensures c.entries.ensures.same c.step-made.ensures.same)

pub returns-clause-fed : goal.returns-clause-fed
returns-clause-fed c =
    subst (λ run. IsFed run (Took c.step-made.result.entry)) c.self.view_is
    (fed_in (run_of_core c.self.inside) c.self.inside.history c.self.inside.scheduler.machine c.args.cpu c.step-made.result.entry (record { state = c.step-made.new.self.machine; reboot = c.step-made.result.reboot }) c.self.invariant.core
    (subst (λ run. end_of_run run ≡ None) (sym c.self.view_is) c.requires.goes_on)
    (subst (λ run. HasTurnIn run c.args.cpu) (sym c.self.view_is) c.requires.turn)
    (step_read _ _ c.self.inside.scheduler.machine _ _ c.args.cpu _ c.scenario.ensures c.entries.ensures.same c.step-made.ensures.same))

pub step-made-requires-clause-valid : goal.step-made-requires-clause-valid
step-made-requires-clause-valid c = subst IsScenario (sym c.scenario.ensures) c.self.invariant.core.keeps.setup.valid

pub step-made-requires-clause-after : goal.step-made-requires-clause-after
step-made-requires-clause-after c =
    subst (λ (scenario : Scenario). IsSchedulerAfter scenario c.entries.result.now c.self.inside.scheduler) (sym c.scenario.ensures)
    (subst (λ h. IsSchedulerAfter c.self.inside.history.scenario h c.self.inside.scheduler) (sym c.entries.ensures.same) c.self.invariant.after)

pub set_due-requires-clause-ends : goal.set_due-requires-clause-ends
set_due-requires-clause-ends c =
    subst (λ h. AreEnds h c.step-made.new.self.ends) (sym (c.entries-2.ensures.same ∙ ap (λ (k : History). k.entries) c.record.ensures))
    (subst (λ h. AreEnds (h ++ c.step-made.result.entry ∷ []) c.step-made.new.self.ends) c.entries.ensures.same c.step-made.ensures.ends)

pub set_due-requires-clause-at_hand : goal.set_due-requires-clause-at_hand
set_due-requires-clause-at_hand c =
    let h = c.self.inside.history.entries in
    let e = c.step-made.result.entry in
    let t = c.step-made.new.self in
    let n = t.machine.shape.tick in
    let more : c.entries-2.result.now ≡ h ++ e ∷ [] = c.entries-2.ensures.same ∙ ap (λ (k : History). k.entries) c.record.ensures in
    subst (λ l. IfSome (last_to l e.cpu) (λ to. t.window.tick ≡ to / n)) (sym more)
    (subst (λ o. IfSome o (λ to. t.window.tick ≡ to / n)) (sym (last_own h e e.cpu refl)) c.step-made.ensures.counts.tick)

pub record-requires-clause-cpu : goal.record-requires-clause-cpu
record-requires-clause-cpu c =
    let own =
    own_entry (run_of_core c.self.inside) c.self.inside.history c.self.inside.scheduler.machine c.args.cpu c.step-made.result.entry (record { state = c.step-made.new.self.machine; reboot = c.step-made.result.reboot })
    c.self.invariant.core
    (subst (λ run. end_of_run run ≡ None) (sym c.self.view_is) c.requires.goes_on)
    (subst (λ run. HasTurnIn run c.args.cpu) (sym c.self.view_is) c.requires.turn)
    (step_read _ _ c.self.inside.scheduler.machine _ _ c.args.cpu _ c.scenario.ensures c.entries.ensures.same c.step-made.ensures.same) in
    let within =
    own_within (run_of_core c.self.inside) c.self.inside.history c.self.inside.scheduler.machine c.args.cpu c.step-made.result.entry (record { state = c.step-made.new.self.machine; reboot = c.step-made.result.reboot })
    c.self.invariant.core
    (subst (λ run. end_of_run run ≡ None) (sym c.self.view_is) c.requires.goes_on)
    (subst (λ run. HasTurnIn run c.args.cpu) (sym c.self.view_is) c.requires.turn)
    (step_read _ _ c.self.inside.scheduler.machine _ _ c.args.cpu _ c.scenario.ensures c.entries.ensures.same c.step-made.ensures.same) in
    omega (arith, own, within)

pub set_due-requires-clause-cpu : goal.set_due-requires-clause-cpu
set_due-requires-clause-cpu c =
    let own =
    own_entry (run_of_core c.self.inside) c.self.inside.history c.self.inside.scheduler.machine c.args.cpu c.step-made.result.entry (record { state = c.step-made.new.self.machine; reboot = c.step-made.result.reboot })
    c.self.invariant.core
    (subst (λ run. end_of_run run ≡ None) (sym c.self.view_is) c.requires.goes_on)
    (subst (λ run. HasTurnIn run c.args.cpu) (sym c.self.view_is) c.requires.turn)
    (step_read _ _ c.self.inside.scheduler.machine _ _ c.args.cpu _ c.scenario.ensures c.entries.ensures.same c.step-made.ensures.same) in
    let within =
    own_within (run_of_core c.self.inside) c.self.inside.history c.self.inside.scheduler.machine c.args.cpu c.step-made.result.entry (record { state = c.step-made.new.self.machine; reboot = c.step-made.result.reboot })
    c.self.invariant.core
    (subst (λ run. end_of_run run ≡ None) (sym c.self.view_is) c.requires.goes_on)
    (subst (λ run. HasTurnIn run c.args.cpu) (sym c.self.view_is) c.requires.turn)
    (step_read _ _ c.self.inside.scheduler.machine _ _ c.args.cpu _ c.scenario.ensures c.entries.ensures.same c.step-made.ensures.same) in
    omega (arith, own, within)

pub record-requires-clause-ends : goal.record-requires-clause-ends
record-requires-clause-ends c =
    subst (λ h. AreEnds (h ++ c.step-made.result.entry ∷ []) c.step-made.new.self.ends) c.entries.ensures.same c.step-made.ensures.ends

pub invariant_of-self : goal.invariant_of-self
invariant_of-self c =
    let run = run_of_core c.self.inside in
    let kept = c.self.inside.history in
    let h = kept.entries in
    let s = c.self.inside.scheduler in
    let t = c.step-made.new.self in
    let e = c.step-made.result.entry in
    let shape = t.machine.shape in
    let more = c.record.new.history in
    let left : After = record { state = t.machine; reboot = c.step-made.result.reboot } in
    let goes_on = subst (λ run. end_of_run run ≡ None) (sym c.self.view_is) c.requires.goes_on in
    let turn = subst (λ run. HasTurnIn run c.args.cpu) (sym c.self.view_is) c.requires.turn in
    let steps = step_read _ _ s.machine _ _ c.args.cpu _ c.scenario.ensures c.entries.ensures.same c.step-made.ensures.same in
    let own : e.cpu ≡ c.args.cpu = own_entry run kept s.machine c.args.cpu e left c.self.invariant.core goes_on turn steps in
    let core = core_kept run kept s.machine c.args.cpu e more left c.self.invariant.core goes_on turn (record { steps = steps; added = c.record.ensures }) in
    let lasts = subst (λ g. AreEnds (g ++ e ∷ []) t.ends) c.entries.ensures.same c.step-made.ensures.ends in
    let pending : IsPending kept.scenario shape.tick (h ++ e ∷ []) t.ctl =
    subst (λ n. IsPending kept.scenario n (h ++ e ∷ []) t.ctl)
    (tick_of_core run kept s.machine c.self.invariant.core ∙ ap (λ (k : History). k.scenario.shape.tick) (sym c.record.ensures) ∙ sym (tick_of_core _ more t.machine core))
    (subst (λ g. IsPending kept.scenario s.machine.shape.tick (g ++ e ∷ []) t.ctl) c.entries.ensures.same
    (subst (λ (z : Scenario). IsPending z s.machine.shape.tick (c.entries.result.now ++ e ∷ []) t.ctl) c.scenario.ensures c.step-made.ensures.pending)) in
    let counts : Counts shape (h ++ e ∷ []) (moment (h ++ e ∷ []) / shape.tick) t.window =
    counts_like shape shape (h ++ e ∷ []) (e.to / shape.tick) (moment (h ++ e ∷ []) / shape.tick) t.window
    (subst (λ g. Counts shape (g ++ e ∷ []) (e.to / shape.tick) t.window) c.entries.ensures.same c.step-made.ensures.counts) refl (ap (λ n. n / shape.tick) (moment-append h e)) in
    let all : c.entries-2.result.now ≡ h ++ e ∷ [] = c.entries-2.ensures.same ∙ ap (λ (k : History). k.entries) c.record.ensures in
    let next = due t.machine c.entries-2.result.now e.cpu in
    let nexts =
    dues_more run kept s.machine c.args.cpu e left t.dues next c.self.invariant.core goes_on turn steps c.set_due.ensures.whole
    (subst (AreDues s.machine h) (sym c.step-made.ensures.dues) c.self.invariant.after.nexts) (λ i. due t.machine (all i) (own i)) in
    let before = cpus_now run kept s.machine c.self.invariant.core in
    let count = cpus_after run kept s.machine c.args.cpu e left c.self.invariant.core goes_on turn steps in
    let within = own_within run kept s.machine c.args.cpu e left c.self.invariant.core goes_on turn steps in
    let spare =
    spare_after (length t.machine.cpus) t.dues e next
    (λ d past. subst (λ l. slice_index l d ≡ 0) (sym c.step-made.ensures.dues) (c.self.invariant.after.spare d (omega (arith, past, before, count))))
    (omega (arith, own, within)) c.step-made.ensures.flagged in
    let after : IsSchedulerAfter kept.scenario (h ++ e ∷ []) (record t { dues = dues_after t.dues e next }) =
    record {
      pending = pending;
      seats = c.step-made.ensures.seats;
      timed = c.step-made.ensures.timed;
      lasts = lasts;
      counts = counts;
      nexts = nexts;
      spare = spare;
      posted = c.step-made.ensures.posts;
      stands = c.step-made.ensures.stands;
    } in
    subst (IsCoreWith _ more) (sym c.set_due.ensures.same)
    (record { core = core; after = subst (λ (k : History). IsSchedulerAfter k.scenario k.entries (record t { dues = dues_after t.dues e next })) (sym c.record.ensures) after })

pub record-requires-clause-told : goal.record-requires-clause-told
record-requires-clause-told c calm = told_in (run_of_core c.self.inside) c.self.inside.history c.self.inside.scheduler.machine c.step-made.new.self.machine c.self.invariant.core (c.step-made.ensures.kept calm)
