use Rattle.aps_timer.proofs.Firsts.{IsPast}
use Rattle.aps_timer.proofs.lines.first_in.Given as goal

abbrev pub invariant-loop-word : goal.invariant-loop-word
invariant-loop-word l = IsPast l.fn.row l.fn.lines l.fn.line l.fn.begin l.word l.first
