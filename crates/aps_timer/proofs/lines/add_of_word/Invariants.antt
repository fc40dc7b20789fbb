use Rattle.std.proofs.Common.{◌-◌}
use Rattle.aps_timer.proofs.OfWord.{IsAdded}
use Rattle.aps_timer.proofs.lines.add_of_word.Given as goal

abbrev pub invariant-loop-from : goal.invariant-loop-from
invariant-loop-from l = IsAdded l.fn.row l.fn.bits l.left l.fn.word l.fn.now l.from l.due

abbrev pub decreases-loop-from : goal.decreases-loop-from
decreases-loop-from l = 64 - l.from
