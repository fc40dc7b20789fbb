use Rattle.std.proofs.Common.{◌≤◌, length, ◌∙◌, refl, sym, ap, subst, arith}
use Rattle.aps_model.specs.SchedulerState.{SchedulerState}
use Rattle.aps_model.specs.TickWork.{changes_with, do_command, view_of}
use Rattle.aps_core.specs.Calls.{command_at}
use Rattle.aps_core.specs.Counts.{Counts}
use Rattle.aps_core.specs.MachineView.{state_of_machine}
use Rattle.aps_core.specs.Room.{changes_of_a_run}
use Rattle.aps_core.proofs.Commands.{IsPerformed, added_change, counts_performed, done_by, few_replies, performed_machine, performed_of}
use Rattle.aps_core.proofs.machine.Machine.do_command.Goals as goal

pub invariant_of-self : goal.invariant_of-self
invariant_of-self c =
    let s = state_of_machine c.self.inside in
    performed_machine _ _ c.args.call.now c.view_of-view.result s c.perform-answer.new.tree.rows c.perform-answer.new.shape _ _ _ _ _ _ c.requires.call.2 c.self.invariant c.perform-answer.ensures.shape c.perform-answer.ensures.parts

pub push_reply-requires : goal.push_reply-requires
push_reply-requires c =
    let s = state_of_machine c.self.inside in
    let h = c.args.entries.now in
    let j = c.args.tick in
    let call = c.args.call.now in
    let t = state_of_machine c.self-2.inside in
    let done : IsPerformed s h j call c.perform-answer.result c.change_by-change.result t =
    performed_of s h j call c.view_of-view.result c.perform-answer.result c.perform-answer.new.tree.rows c.perform-answer.new.shape c.change_by-change.result c.mark_by.result t
    (c.view_of-view.ensures ∙ ap (λ u. view_of u h j call) (sym c.self.view_is))
    c.perform-answer.ensures.answer c.perform-answer.ensures.rows c.perform-answer.ensures.shape
    (c.change_by-change.ensures.law s.rows s.shape c.view_of-view.result c.perform-answer.ensures.answer c.perform-answer.ensures.rows)
    (c.mark_by.ensures.law call s.rows s.shape c.view_of-view.result c.perform-answer.ensures.answer)
    (c.self-2.view_is ∙ c.set_mark.ensures) in
    let same = ap length (few_replies s h j call _ _ t done) in
    let was = ap (λ (u : SchedulerState). length u.replies) c.self.view_is in
    let few = c.requires.replies in
    let space = c.self-2.invariant.reply_room in
    record { room = omega (arith, same, was, few, space) }

pub push_change-requires : goal.push_change-requires
push_change-requires c =
    let s = state_of_machine c.self.inside in
    let h = c.args.entries.now in
    let j = c.args.tick in
    let call = c.args.call.now in
    let t = state_of_machine c.self-2.inside in
    let done : IsPerformed s h j call c.perform-answer.result c.change_by-change.result t =
    performed_of s h j call c.view_of-view.result c.perform-answer.result c.perform-answer.new.tree.rows c.perform-answer.new.shape c.change_by-change.result c.mark_by.result t
    (c.view_of-view.ensures ∙ ap (λ u. view_of u h j call) (sym c.self.view_is))
    c.perform-answer.ensures.answer c.perform-answer.ensures.rows c.perform-answer.ensures.shape
    (c.change_by-change.ensures.law s.rows s.shape c.view_of-view.result c.perform-answer.ensures.answer c.perform-answer.ensures.rows)
    (c.mark_by.ensures.law call s.rows s.shape c.view_of-view.result c.perform-answer.ensures.answer)
    (c.self-2.view_is ∙ c.set_mark.ensures) in
    let one = added_change s h j c.args.place (record { tick = c.args.tick; call = c.args.call.now }) c.perform-answer.result c.change_by-change.result c.in-Some.kind t done c.in-Some.is in
    let few = subst (λ (u : SchedulerState). length (do_command h j u (command_at c.args.tick c.args.place c.args.call.now)).changes ≤ changes_of_a_run) (sym c.self.view_is) c.requires.changes in
    let space = c.self-2.invariant.change_room in
    record { room = omega (arith, one, few, space) }

pub returns-in_default-clause-same : goal.returns-in_default-clause-same
returns-in_default-clause-same c =
    let s = state_of_machine c.self.inside in
    let h = c.args.entries.now in
    let j = c.args.tick in
    let call = c.args.call.now in
    let t = state_of_machine c.self-2.inside in
    let done : IsPerformed s h j call c.perform-answer.result c.change_by-change.result t =
    performed_of s h j call c.view_of-view.result c.perform-answer.result c.perform-answer.new.tree.rows c.perform-answer.new.shape c.change_by-change.result c.mark_by.result t
    (c.view_of-view.ensures ∙ ap (λ u. view_of u h j call) (sym c.self.view_is))
    c.perform-answer.ensures.answer c.perform-answer.ensures.rows c.perform-answer.ensures.shape
    (c.change_by-change.ensures.law s.rows s.shape c.view_of-view.result c.perform-answer.ensures.answer c.perform-answer.ensures.rows)
    (c.mark_by.ensures.law call s.rows s.shape c.view_of-view.result c.perform-answer.ensures.answer)
    (c.self-2.view_is ∙ c.set_mark.ensures) in
    done_by s h j c.args.place (record { tick = c.args.tick; call = c.args.call.now }) c.perform-answer.result c.change_by-change.result t c.push_reply.new.replies.items c.self-2.inside.changes.items done
    c.push_reply.ensures.items (sym (ap (changes_with t.changes j) c.in_default.is))
    ∙ ap (λ u. do_command h j u (command_at c.args.tick c.args.place c.args.call.now)) c.self.view_is

pub resize-requires-clause-shape : goal.resize-requires-clause-shape
resize-requires-clause-shape c =
    (performed_machine _ _ c.args.call.now c.view_of-view.result (state_of_machine c.self.inside) c.perform-answer.new.tree.rows c.perform-answer.new.shape _ _ _ _ _ _ c.requires.call.2 c.self.invariant c.perform-answer.ensures.shape c.perform-answer.ensures.parts).shape

pub returns-in-Some-clause-counts : goal.returns-in-Some-clause-counts
returns-in-Some-clause-counts c =
    let s = state_of_machine c.self.inside in
    counts_performed _ _ c.args.call.now c.view_of-view.result s (record s { rows = c.perform-answer.new.tree.rows; shape = c.perform-answer.new.shape }) (state_of_machine c.self-2.inside) c.perform-answer.new.shape _ _
    c.args.entries.now c.args.tick c.args.window.now c.resize.new.window c.requires.call.2 c.self.invariant.shape c.perform-answer.ensures.shape
    (subst (λ (u : SchedulerState). Counts u.shape c.args.entries.now c.args.tick c.args.window.now) (sym c.self.view_is) c.requires.counts)
    c.resize.ensures refl (c.self-2.view_is ∙ c.set_mark.ensures)

pub returns-in_default-clause-counts : goal.returns-in_default-clause-counts
returns-in_default-clause-counts c =
    let s = state_of_machine c.self.inside in
    counts_performed _ _ c.args.call.now c.view_of-view.result s (record s { rows = c.perform-answer.new.tree.rows; shape = c.perform-answer.new.shape }) (state_of_machine c.self-2.inside) c.perform-answer.new.shape _ _
    c.args.entries.now c.args.tick c.args.window.now c.resize.new.window c.requires.call.2 c.self.invariant.shape c.perform-answer.ensures.shape
    (subst (λ (u : SchedulerState). Counts u.shape c.args.entries.now c.args.tick c.args.window.now) (sym c.self.view_is) c.requires.counts)
    c.resize.ensures refl (c.self-2.view_is ∙ c.set_mark.ensures)
