use Rattle.std.proofs.Common.{◌≡◌, ◌≤◌, ◌++◌, ◌-◌, take, drop, length}
use Rattle.aps_model.specs.TickWork.{insert_sleeper}
use Rattle.aps_timer.proofs.list.place_of.Given as goal

abbrev pub invariant-loop-place : goal.invariant-loop-place
invariant-loop-place l = record {
  within : l.place ≤ length l.list;
  behind : insert_sleeper l.sleeper l.list ≡ take l.place l.list ++ insert_sleeper l.sleeper (drop l.place l.list);
}

abbrev pub decreases-loop-place : goal.decreases-loop-place
decreases-loop-place l = length l.list - l.place
