use Rattle.std.proofs.Common.{◌≡◌, ◌<◌, ℕ, get_or, length}
use Rattle.aps_model.specs.Limits.{most_partitions}
use Rattle.aps_window.specs.Window.{total_of}
use Rattle.view_samples.proofs.sums.Sums.free_time.Given as goal

abbrev pub invariant-loop-p : goal.invariant-loop-p
invariant-loop-p l = record {
  count : length l.free ≡ most_partitions;
  free : (k : ℕ) → k < l.p → get_or l.free k 0 ≡ (total_of l.self.free k).critical;
}
