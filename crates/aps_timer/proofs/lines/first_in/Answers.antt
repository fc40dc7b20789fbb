use Rattle.std.proofs.Common.{◌+◌, ◌*◌, refl, sym, ◌∙◌, subst, get_or, arith}
use Rattle.aps_timer.specs.Lines.{no_bits, words_of_line}
use Rattle.aps_timer.proofs.Firsts.{IsPast, ended_in_line, more_past}
use Rattle.aps_timer.proofs.lines.first_in.Goals.{After-first_of-first}
use Rattle.aps_timer.proofs.lines.first_in.Goals as goal

-- once one word more is past
more : (c : goal.After-first_of-first) → IsPast c.args.row.now c.args.lines.now c.args.line c.args.begin (c.loop-word.word + 1) c.first_of-first.result
more c =
    let row = c.args.row.now in
    let lines = c.args.lines.now in
    let line = c.args.line in
    let begin = c.args.begin in
    let word = c.loop-word.word in
    subst (IsPast row lines line begin (word + 1)) (sym c.first_of-first.ensures)
    (more_past row lines line begin word (get_or lines (words_of_line * line + word) no_bits) c.loop-word.first c.first_in_word.result
    (omega arith) c.loop-word.invariant refl c.first_in_word.ensures.one c.first_in_word.ensures.others)

pub returns-then-wakes_by-clause-others : goal.returns-then-wakes_by-clause-others
returns-then-wakes_by-clause-others c =
    ended_in_line c.args.row.now c.args.lines.now c.args.line c.args.begin (c.loop-word.word + 1) c.first_of-first.result
    (more (goal.at.returns-then-wakes_by-clause-others c).After-first_of-first) (sym c.wakes_by.ensures ∙ c.if-wakes_by.true)

pub loop-word-preserved : goal.loop-word-preserved
loop-word-preserved c = more (goal.at.loop-word-preserved c).After-first_of-first
