use Rattle.std.proofs.Common.{◌≡◌, ◌≤◌, max}
use Rattle.aps_bound.specs.Limits.{AreLimits}
use Rattle.aps_bound.specs.Worst.{with_windows}
use Rattle.aps_bound.proofs.recount.by_recount.Given as goal

abbrev pub invariant-loop-a : goal.invariant-loop-a
invariant-loop-a l = record {
  same : l.audit ≡ with_windows l.history l.initial.audit l.from l.a;
  limits : AreLimits l.history l.audit l.limits;
  reached : l.a ≤ max l.from l.end;
}
