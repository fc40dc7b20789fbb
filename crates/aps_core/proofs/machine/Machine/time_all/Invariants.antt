use Rattle.std.proofs.Common.{◌≡◌, ℕ, ◌<◌, length}
use Rattle.aps_core.specs.Sleepers.{IsTimed}
use Rattle.aps_core.proofs.machine.Machine.time_all.Given as goal

abbrev pub invariant-loop-x : goal.invariant-loop-x
invariant-loop-x l = record {
  count : length l.timer ≡ length l.self.threads;
  timed : (y : ℕ) → y < l.x → IsTimed l.self l.timer y;
}
