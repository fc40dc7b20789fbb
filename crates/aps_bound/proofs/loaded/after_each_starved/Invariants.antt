use Rattle.std.proofs.Common.{◌≡◌, ℕ, ◌≤◌, nat_lt, take}
use Rattle.aps_model.specs.Loaded.{has_starved}
use Rattle.aps_bound.proofs.loaded.after_each_starved.Given as goal

abbrev pub invariant-loop-e : goal.invariant-loop-e
invariant-loop-e l = record {
  same : (s : ℕ) → has_starved l.tick (take l.e-index l.entries) s l.count ≡ nat_lt s l.after;
  finished : l.after ≤ l.count;
}
