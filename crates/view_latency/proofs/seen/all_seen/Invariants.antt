use Rattle.std.proofs.Common.{◌≡◌, ℕ, ◌<◌, length}
use Rattle.aps_core.specs.Run.{state_of_run}
use Rattle.view_latency.specs.Callers.{caller_at}
use Rattle.view_latency.specs.Seen.{seen_at, seen_of}
use Rattle.view_latency.proofs.seen.all_seen.Given as goal

abbrev pub invariant-loop-k : goal.invariant-loop-k
invariant-loop-k l = record {
  count : length l.seen.items ≡ l.k;
  each : (j : ℕ) → j < l.k → seen_at l.seen.items j ≡ seen_of (state_of_run l.core) (caller_at l.callers j);
}
