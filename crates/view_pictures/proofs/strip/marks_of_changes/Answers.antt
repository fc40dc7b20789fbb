use Rattle.std.proofs.Common.{◌+◌, ℕ, List, ap, arith, map, subst, sym, ◌∙◌}
use Rattle.std.proofs.lemmas.List.{get_or-map, length-map}
use Rattle.view_marks.specs.declared.alteration.Alteration.{Alteration}
use Rattle.view_pictures.specs.declared.mark.Mark.{Mark}
use Rattle.view_pictures.specs.Strip.{DrawnMark, all_drawn, with_moment}
use Rattle.view_pictures.proofs.Marked.{AreSoFar, all_so_far, more_so_far, none_so_far}
use Rattle.view_pictures.proofs.strip.marks_of_changes.Goals as goal

moment_of : Alteration → ℕ
moment_of one = one.moment

pub loop-i-init : goal.loop-i-init
unfolding moment_of
loop-i-init c =
    let from = c.args.span.now.from in
    let to = c.args.span.now.to in
    let moments = map moment_of c.args.alterations.now in
    subst (λ (marks : List Mark). AreSoFar from to moments 0 (all_drawn marks)) (sym c.new-marks.ensures.items) (none_so_far from to moments)

pub loop-i-preserved : goal.loop-i-preserved
unfolding moment_of
loop-i-preserved c =
    let from = c.args.span.now.from in
    let to = c.args.span.now.to in
    let i = c.loop-i.i in
    let moments = map moment_of c.args.alterations.now in
    let one = c.index-alterations-i.result in
    let within = c.loop-i-test.true in
    let count = length-map c.args.alterations.now moment_of in
    let before = all_drawn c.loop-i.marks.items in
    subst (λ (marks : List DrawnMark). AreSoFar from to moments (i + 1) marks)
    (ap (λ moment. with_moment from to before moment i) (get_or-map moment_of c.args.alterations.now i one (moment_of one) within ∙ ap moment_of (sym c.index-alterations-i.is)) ∙ sym c.in_ok-add_moment.ensures)
    (more_so_far from to moments i (moment_of one) before (omega (arith, within, count)) c.loop-i.invariant)

pub returns : goal.returns
unfolding moment_of
returns c =
    let moments = map moment_of c.args.alterations.now in
    let past = c.loop-i-test.false in
    let count = length-map c.args.alterations.now moment_of in
    all_so_far c.args.span.now.from c.args.span.now.to moments c.loop-i.i (all_drawn c.loop-i.marks.items) (omega (arith, past, count)) c.loop-i.invariant
