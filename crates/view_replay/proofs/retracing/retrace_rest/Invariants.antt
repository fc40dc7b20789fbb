use Rattle.std.proofs.Common.{◌≡◌, ◌≤◌, length}
use Rattle.view_replay.specs.Retraced.{front}
use Rattle.view_replay.proofs.retracing.retrace_rest.Given as goal

abbrev pub invariant-loop-i : goal.invariant-loop-i
invariant-loop-i l = record {
  core : l.core ≡ front l.fn.core.setup l.entries l.i;
  place : l.i ≤ length l.entries;
}
