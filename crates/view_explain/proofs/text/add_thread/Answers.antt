use Rattle.std.proofs.Common.{◌≡◌, ◌++◌, List, ℕ, OnOk, ◌∙◌, ap, subst, string_bytes}
use Rattle.aps_model.specs.declared.state.Facts.{Facts}
use Rattle.aps_model.specs.declared.state.ThreadNow.{ThreadNow}
use Rattle.aps_model.specs.Inherit.{facts_of}
use Rattle.aps_model.specs.SchedulerState.{thread_at}
use lib.Chars.{codes}
use Rattle.view_explain.specs.declared.because.Because.{Because}
use Rattle.view_explain.specs.Because.{because}
use Rattle.view_explain.specs.Past.{state_of_past}
use Rattle.view_explain.specs.Text.{again_line, because_line, head_by, part_line, since, since_last, class_and_rivals, facts_line}
use Rattle.view_explain.proofs.Wording.{added_last, added_more}
use Rattle.view_explain.proofs.text.add_thread.Goals as goal

pub returns : goal.returns
returns c =
    let past = c.args.scene.now in
    let x = c.args.x in
    let at = c.args.at in
    let life = c.args.life.now in
    let start = string_bytes c.args.out.now in
    let thread = c.thread-thread.result in
    let facts = c.facts_of-facts.result in
    let cause = c.in_ok-because.because in
    let last = c.since_last-last.result in
    let moment = c.since-begin.result in
    let t1 = string_bytes c.add_head.new.out in
    let t2 = string_bytes c.add_values.new.out in
    let t3 = string_bytes c.add_values-2.new.out in
    let t4 = string_bytes c.add_part.new.out in
    let t5 = string_bytes c.add_again.new.out in
    let t6 = string_bytes c.add_state.new.out in
    let head = head_by past thread.state moment x in
    let own = facts_line past (codes "own") thread.own in
    let counts = facts_line past (codes "counts_as") facts in
    let part = part_line past facts.partition in
    let again = again_line past facts.partition in
    let does = class_and_rivals past x thread.state in
    let two = added_more start t1 t2 head own c.in_ok-add_head.ensures c.in_ok-add_values.ensures in
    let three = added_more start t2 t3 (head ++ own) counts two c.in_ok-add_values-2.ensures in
    let four = added_more start t3 t4 (head ++ own ++ counts) part three c.in_ok-add_part.ensures in
    let five = added_more start t4 t5 (head ++ own ++ counts ++ part) again four c.in_ok-add_again.ensures in
    let six = added_more start t5 t6 (head ++ own ++ counts ++ part ++ again) does five c.in_ok-add_state.ensures in
    let told : ThreadNow → Facts → Because → ℕ → List ℕ = λ thread facts cause moment.
    start
    ++ (head_by past thread.state moment x ++ facts_line past (codes "own") thread.own ++ facts_line past (codes "counts_as") facts
    ++ part_line past facts.partition ++ again_line past facts.partition ++ class_and_rivals past x thread.state ++ because_line past cause) in
    let now = thread_at (state_of_past past) x in
    let counted = facts_of (state_of_past past) x in
    let same =
    added_last start t6 (head ++ own ++ counts ++ part ++ again ++ does) (because_line past cause) six
    ∙ ap (λ t. told t facts cause moment) c.thread-thread.ensures.same ∙ ap (λ f. told now f cause moment) c.facts_of-facts.ensures
    ∙ ap (λ b. told now counted b moment) c.in_ok-because.ensures
    ∙ ap (told now counted (because past x)) (c.since-begin.ensures ∙ ap (λ l. since l last at) c.segments-segments.ensures
    ∙ ap (λ n. since life n at) (c.since_last-last.ensures ∙ ap (λ l. since_last past l thread.state) c.segments-segments.ensures
    ∙ ap (λ (t : ThreadNow). since_last past life t.state) c.thread-thread.ensures.same)) in
    subst (λ (l : List ℕ). OnOk c.add_because.result (string_bytes c.add_because.new.out ≡ l)) same c.add_because.ensures
