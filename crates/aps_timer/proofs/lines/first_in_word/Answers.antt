use Rattle.std.proofs.Common.{◌≡◌, ◌+◌, ◌*◌, ap, sym, subst, ◌∙◌, get_or, None}
use Rattle.aps_timer.specs.Lines.{sleeper_of}
use Rattle.aps_timer.specs.Order.{earlier_sleeper}
use Rattle.aps_timer.proofs.Firsts.{IsDone, ended_in_word, more_done}
use Rattle.aps_timer.proofs.lines.first_in_word.Goals.{After-without-left}
use Rattle.aps_timer.proofs.lines.first_in_word.Goals as goal

-- once one bit more is done with
more : (c : goal.After-without-left) → IsDone c.args.row.now c.args.bits c.without-left.result c.args.word (c.in-Some.bit + 1) c.first_of-first.result
more c =
    let row = c.args.row.now in
    let first = c.loop-from.first in
    let bit = c.in-Some.bit in
    let x = 64 * c.args.word + bit in
    let read : c.moment_of.result ≡ get_or row x None = c.moment_of.ensures ∙ ap (λ y. get_or row y None) c.at-x.ensures in
    let found : c.sleeper_of.result ≡ sleeper_of x c.moment_of.result =
    c.sleeper_of.ensures ∙ ap (λ y. sleeper_of y c.moment_of.result) c.at-x.ensures in
    subst (IsDone row c.args.bits c.without-left.result c.args.word (bit + 1))
    (sym (c.first_of-first.ensures ∙ ap (earlier_sleeper first) found))
    (more_done row c.args.bits c.loop-from.left c.without-left.result c.args.word c.loop-from.from bit first c.moment_of.result
    c.loop-from.invariant c.in-Some.ensures.some c.without-left.ensures read)

pub returns-then-wakes_by-clause-others : goal.returns-then-wakes_by-clause-others
returns-then-wakes_by-clause-others c =
    ended_in_word c.args.row.now c.args.bits c.without-left.result c.args.word (c.in-Some.bit + 1) c.args.begin c.first_of-first.result
    (more (goal.at.returns-then-wakes_by-clause-others c).After-without-left) (sym c.wakes_by.ensures ∙ c.if-wakes_by.true)

pub loop-from-preserved : goal.loop-from-preserved
loop-from-preserved c = more (goal.at.loop-from-preserved c).After-without-left
