use Rattle.std.proofs.Common.{◌-◌}
use Rattle.aps_timer.proofs.Firsts.{IsDone}
use Rattle.aps_timer.proofs.lines.first_in_word.Given as goal

abbrev pub invariant-loop-from : goal.invariant-loop-from
invariant-loop-from l = IsDone l.fn.row l.fn.bits l.left l.fn.word l.from l.first

abbrev pub decreases-loop-from : goal.decreases-loop-from
decreases-loop-from l = 64 - l.from
