use Rattle.std.proofs.Common.{◌≡◌, ◌<◌, ℕ, get_or, length}
use Rattle.aps_model.specs.Limits.{most_partitions}
use Rattle.aps_window.specs.Window.{total_of}
use Rattle.view_samples.proofs.sums.Sums.usage.Given as goal

abbrev pub invariant-loop-p : goal.invariant-loop-p
invariant-loop-p l = record {
  used_count : length l.used ≡ most_partitions;
  used : (k : ℕ) → k < l.p → get_or l.used k 0 ≡ (total_of l.self.all k).billed;
  critical_count : length l.critical ≡ most_partitions;
  critical : (k : ℕ) → k < l.p → get_or l.critical k 0 ≡ (total_of l.self.all k).critical;
}
