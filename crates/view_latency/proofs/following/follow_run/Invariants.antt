use Rattle.std.proofs.Common.{◌≡◌, ◌-◌, length}
use Rattle.view_latency.specs.Following.{IsBeside}
use Rattle.view_latency.proofs.following.follow_run.Given as goal

abbrev pub invariant-loop-core : goal.invariant-loop-core
invariant-loop-core l = record {
  setup : l.core.setup ≡ l.fn.core.setup;
  beside : IsBeside l.core l.following;
}

abbrev pub decreases-loop-core : goal.decreases-loop-core
decreases-loop-core l = l.core.setup.limit - length l.core.entries
