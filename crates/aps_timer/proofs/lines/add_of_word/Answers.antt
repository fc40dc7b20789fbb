use Rattle.std.proofs.Common.{◌∙◌, ◌+◌, ap, sym, arith}
use Rattle.aps_timer.specs.Sleepers.{due_below}
use Rattle.aps_timer.proofs.OfWord.{more_added, up_to_end, up_to_least}
use Rattle.aps_timer.proofs.lines.add_of_word.Goals as goal

pub loop-from-preserved-in-None : goal.loop-from-preserved-in-None
loop-from-preserved-in-None c =
    let is = c.loop-from.invariant in
    record {
      within = omega arith;
      gathered = up_to_end c.args.row.now c.args.bits c.loop-from.left c.args.word c.args.now c.loop-from.from c.loop-from.due is c.requires.bits c.in-None.ensures.none;
      below = λ k below. c.in-None.ensures.none k;
      same = λ k above. is.same k (omega (arith, above, is.within));
    }

pub add_due-requires : goal.add_due-requires
add_due-requires c =
    up_to_least c.args.row.now c.args.bits c.loop-from.left c.args.word c.args.now c.loop-from.from c.in-Some.bit c.loop-from.due c.loop-from.invariant c.requires.bits c.in-Some.ensures.some
    ∙ ap (due_below c.args.row.now c.args.now) (sym c.at.ensures)

pub loop-from-preserved : goal.loop-from-preserved
loop-from-preserved c =
    more_added c.args.row.now c.args.bits c.loop-from.left c.without_least-left.result c.args.word c.args.now c.loop-from.from c.in-Some.bit c.loop-from.due c.add_due.new.due
    c.loop-from.invariant c.in-Some.ensures.some (c.without_least-left.ensures c.in-Some.bit c.in-Some.ensures.some)
    (c.add_due.ensures ∙ ap (λ x. due_below c.args.row.now c.args.now (x + 1)) c.at.ensures)
