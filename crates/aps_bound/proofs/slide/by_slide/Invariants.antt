use Rattle.std.proofs.Common.{◌≡◌, ◌+◌, ◌≤◌, max}
use Rattle.aps_bound.specs.Window.{IsUsageWindow}
use Rattle.aps_bound.specs.Limits.{AreLimits}
use Rattle.aps_bound.specs.Worst.{with_windows}
use Rattle.aps_bound.proofs.slide.by_slide.Given as goal

abbrev pub invariant-loop-a : goal.invariant-loop-a
invariant-loop-a l = record {
  same : l.audit ≡ with_windows l.history l.initial.audit l.from l.a;
  limits : AreLimits l.history l.audit l.limits;
  reached : l.a ≤ max l.from l.end;
  window : IsUsageWindow l.shape.tick l.entries l.window;
  first : l.window.first.tick ≡ l.a;
  end : l.window.end.tick ≡ l.a + l.shape.window;
}
