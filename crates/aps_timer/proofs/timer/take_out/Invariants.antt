use Rattle.std.proofs.Common.{◌≡◌, ◌++◌, take, vec_capacity}
use Rattle.aps_timer.specs.Sleepers.{numbers_of, without_all}
use Rattle.aps_timer.proofs.timer.take_out.Given as goal

abbrev pub invariant-loop-i : goal.invariant-loop-i
invariant-loop-i l = record {
  row : l.asleep ≡ without_all l.initial.asleep (take l.i l.due);
  woken : l.woken.items ≡ l.initial.woken.items ++ numbers_of (take l.i l.due);
  room : vec_capacity l.woken ≡ vec_capacity l.initial.woken;
}
