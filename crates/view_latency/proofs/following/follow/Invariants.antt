use Rattle.std.proofs.Common.{◌≡◌}
use Rattle.view_replay.specs.Retraced.{front}
use Rattle.view_latency.specs.Following.{IsBeside}
use Rattle.view_latency.proofs.following.follow.Given as goal

abbrev pub invariant-loop-e : goal.invariant-loop-e
invariant-loop-e l = record {
  core : l.core ≡ front l.fn.core.setup l.entries l.e-index;
  beside : IsBeside l.core l.following;
}
