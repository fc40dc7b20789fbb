use Rattle.std.proofs.Common.{◌≡◌, ◌≢◌, ℕ, ◌<◌, ◌≤◌, get_or, length}
use Rattle.aps_model.specs.SchedulerState.{SchedulerState}
use Rattle.aps_core.specs.Run.{state_of_run}
use Rattle.view_latency.specs.Callers.{caller_at}
use Rattle.view_latency.specs.Calls.{no_calls, calls_with_entry}
use Rattle.view_latency.specs.Seen.{AreSeen, seen_at, seen_of}
use Rattle.view_latency.proofs.calling.add_news.Given as goal

abbrev pub invariant-loop-k : goal.invariant-loop-k
invariant-loop-k l = record {
  count : length l.calls.items ≡ length l.initial.calls.items;
  seen_count : length l.seen.items ≡ length l.callers;
  anew : (j : ℕ) → j < l.k → seen_at l.seen.items j ≡ seen_of (state_of_run l.core) (caller_at l.callers j);
  before : (j : ℕ) → l.k ≤ j → seen_at l.seen.items j ≡ seen_at l.initial.seen.items j;
  done : (s : SchedulerState) → AreSeen s l.callers l.initial.seen.items → (j : ℕ) → j < l.k
      → get_or l.calls.items (caller_at l.callers j) no_calls ≡ calls_with_entry l.core.setup.scenario s (caller_at l.callers j) (get_or l.initial.calls.items (caller_at l.callers j) no_calls) l.e;
  others : (x : ℕ) → ((j : ℕ) → j < l.k → caller_at l.callers j ≢ x) → get_or l.calls.items x no_calls ≡ get_or l.initial.calls.items x no_calls;
}
