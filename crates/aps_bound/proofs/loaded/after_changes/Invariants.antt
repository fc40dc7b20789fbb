use Rattle.std.proofs.Common.{◌≡◌, ℕ, ◌≤◌, nat_lt, take}
use Rattle.aps_model.specs.Loaded.{has_change}
use Rattle.aps_bound.proofs.loaded.after_changes.Given as goal

abbrev pub invariant-loop-change : goal.invariant-loop-change
invariant-loop-change l = record {
  same : (s : ℕ) → has_change (take l.change-index l.changes) s l.count ≡ nat_lt s l.after;
  finished : l.after ≤ l.count;
}
