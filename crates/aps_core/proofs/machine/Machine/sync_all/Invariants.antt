use Rattle.std.proofs.Common.{◌≡◌, ℕ, ◌<◌, length}
use Rattle.aps_core.specs.Seats.{IsRight, IsSeated}
use Rattle.aps_core.proofs.machine.Machine.sync_all.Given as goal

abbrev pub invariant-leave : goal.invariant-leave
invariant-leave l = record {
  count : length l.ready ≡ length l.self.threads;
  seated : (y : ℕ) → y < l.x → IsSeated l.self l.ready y;
}

abbrev pub invariant-enter : goal.invariant-enter
invariant-enter l = record {
  count : length l.ready ≡ length l.self.threads;
  seated : (y : ℕ) → IsSeated l.self l.ready y;
  entered : (y : ℕ) → y < l.x → IsRight l.self l.ready y;
}
