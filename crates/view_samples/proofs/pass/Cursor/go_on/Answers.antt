use Rattle.std.proofs.Common.{◌≡◌, ◌∙◌, ◌<◌, ◌+◌, List, false, length, slice_index_or, take, ap, sym, subst, arith}
use Rattle.std.proofs.Math.ListN.{set}
use Rattle.aps_model.specs.declared.command.Change.{Change}
use Rattle.aps_model.specs.declared.entry.Entry.{Entry}
use Rattle.aps_model.specs.After.{state_after}
use Rattle.aps_model.specs.History.{History, IsEntry}
use Rattle.aps_model.specs.Limits.{most_cpus}
use Rattle.aps_core.specs.Run.{Run, state_of_run}
use Rattle.aps_core.specs.Turn.{with_entry}
use Rattle.view_replay.specs.Retraced.{order_of_run, scenario_of_run}
use Rattle.view_replay.proofs.Retraced.{next_taken}
use Rattle.view_samples.specs.Look.{IsLook, IsLookAtEntry}
use Rattle.view_samples.specs.Pass.{IsUpTo, entry_at, no_entry}
use Rattle.view_samples.specs.Sums.{GoesOnByMarked, HasRoomInTick}
use Rattle.view_samples.proofs.Cuts.{entry_fits}
use Rattle.view_samples.proofs.Fill.{same_read}
use Rattle.view_samples.proofs.Steps.{look_of, rooms, run_more, up_more}
use Rattle.view_samples.proofs.pass.Cursor.go_on.Goals as goal

pub retrace-requires : goal.retrace-requires
retrace-requires c =
    let self = c.args.self.now in
    next_taken self.core.setup c.args.entries.now self.next c.index-entries-self.result self.core c.requires.up.run c.requires.legal c.requires.some (sym c.index-entries-self.is) c.requires.up.room

pub at-look-requires : goal.at-look-requires
at-look-requires c = record { last = (c.args.self.now.core.entries, ap (λ (r : Run). r.entries) c.retrace.ensures) }

pub add-requires-clause-entry : goal.add-requires-clause-entry
add-requires-clause-entry c =
    let self = c.args.self.now in
    let is : c.index-entries-self.result ≡ entry_at c.args.entries.now self.next = c.index-entries-self.is ∙ same_read c.args.entries.now self.next _ no_entry c.requires.some in
    subst IsEntry (sym is) (entry_fits (scenario_of_run self.core) (order_of_run self.core) c.args.entries.now self.next c.requires.valid c.requires.legal c.requires.some)

pub add-requires-clause-all : goal.add-requires-clause-all
add-requires-clause-all c =
    let self = c.args.self.now in
    let is : c.index-entries-self.result ≡ entry_at c.args.entries.now self.next = c.index-entries-self.is ∙ same_read c.args.entries.now self.next _ no_entry c.requires.some in
    subst (HasRoomInTick self.sums.all c.args.tick) (sym is)
    (rooms (scenario_of_run self.core) (order_of_run self.core) c.args.entries.now c.args.tick self c.requires.valid c.requires.legal c.requires.up c.requires.some c.requires.runs).0

pub add-requires-clause-free : goal.add-requires-clause-free
add-requires-clause-free c =
    let self = c.args.self.now in
    let is : c.index-entries-self.result ≡ entry_at c.args.entries.now self.next = c.index-entries-self.is ∙ same_read c.args.entries.now self.next _ no_entry c.requires.some in
    subst (HasRoomInTick self.sums.free c.args.tick) (sym is)
    (rooms (scenario_of_run self.core) (order_of_run self.core) c.args.entries.now c.args.tick self c.requires.valid c.requires.legal c.requires.up c.requires.some c.requires.runs).1

pub returns-clause-look : goal.returns-clause-look
returns-clause-look c =
    let self = c.args.self.now in
    let scenario = scenario_of_run self.core in
    let h = c.args.entries.now in
    let is : c.index-entries-self.result ≡ entry_at h self.next = c.index-entries-self.is ∙ same_read h self.next _ no_entry c.requires.some in
    let goes_on : c.retrace.new.core ≡ with_entry self.core (entry_at h self.next) = c.retrace.ensures ∙ ap (with_entry self.core) is in
    let run = run_more scenario (order_of_run self.core) h c.args.tick self c.retrace.new.core c.requires.up c.requires.some goes_on in
    let changes : length c.changes-changes.result.now ≡ length (state_after scenario (take self.next h)).changes =
    ap (λ (l : List Change). length l) (c.changes-changes.ensures.same ∙ ap (λ (g : History). g.changes) c.history.ensures.same)
    ∙ ap (λ (r : Run). length (state_after scenario r.entries).changes) c.requires.up.run in
    look_of (record { scenario = scenario; order = order_of_run self.core; limit = c.retrace.new.core.setup.limit }) h self.next _ c.retrace.new.core c.at-look.result c.requires.some run changes
    (subst (λ (e : Entry). IsLookAtEntry (state_of_run c.retrace.new.core) c.retrace.new.core.entries (length c.changes-changes.result.now) e c.at-look.result) is c.at-look.ensures)

pub returns-clause-up : goal.returns-clause-up
returns-clause-up c =
    let self = c.args.self.now in
    let scenario = scenario_of_run self.core in
    let h = c.args.entries.now in
    let e = entry_at h self.next in
    let is : c.index-entries-self.result ≡ e = c.index-entries-self.is ∙ same_read h self.next _ no_entry c.requires.some in
    let goes_on : c.retrace.new.core ≡ with_entry self.core e = c.retrace.ensures ∙ ap (with_entry self.core) is in
    let cpu : c.index-cpu.result ≡ e.cpu = c.index-cpu.ensures.same ∙ ap (λ (d : Entry). d.cpu) is in
    let look : IsLook scenario (take self.next h) e c.at-look.result = returns-clause-look c in
    let sums = c.add.new.self in
    let small = c.index-cpu.ensures.small in
    let few : e.cpu < most_cpus = omega (arith, small, cpu) in
    let places : length self.free ≡ most_cpus = omega arith in
    let all : GoesOnByMarked self.sums.all c.args.tick e e.critical sums.all = subst (λ (d : Entry). GoesOnByMarked self.sums.all c.args.tick d d.critical sums.all) is c.add.ensures.all in
    let free_there : GoesOnByMarked self.sums.free c.args.tick c.index-entries-self.result (slice_index_or self.free e.cpu false) sums.free =
    subst (λ k. GoesOnByMarked self.sums.free c.args.tick c.index-entries-self.result (slice_index_or self.free k false) sums.free) cpu c.add.ensures.free in
    let free : GoesOnByMarked self.sums.free c.args.tick e (slice_index_or self.free e.cpu false) sums.free =
    subst (λ (d : Entry). GoesOnByMarked self.sums.free c.args.tick d (slice_index_or self.free e.cpu false) sums.free) is free_there in
    subst (λ k. IsUpTo scenario (order_of_run self.core) h c.args.tick (record { core = c.retrace.new.core; next = self.next + 1; free = set self.free k c.at-look.result.free; sums = sums })) (sym cpu)
    (up_more scenario (order_of_run self.core) h c.args.tick self c.retrace.new.core sums c.at-look.result.free c.requires.valid c.requires.legal c.requires.up c.requires.some c.requires.runs goes_on few places look.free all free c.add.ensures.span)
