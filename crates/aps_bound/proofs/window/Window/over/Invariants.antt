use Rattle.std.proofs.Common.{◌≡◌, ◌≤◌}
use Rattle.aps_bound.specs.Window.{IsUsageWindow}
use Rattle.aps_bound.proofs.window.Window.over.Given as goal

abbrev pub invariant-loop-count : goal.invariant-loop-count
invariant-loop-count l = record {
  window : IsUsageWindow l.tick l.entries l.window;
  first : l.window.first.tick ≡ l.a;
  end : l.window.end.tick ≡ l.count;
  reached : l.count ≤ l.b;
}
