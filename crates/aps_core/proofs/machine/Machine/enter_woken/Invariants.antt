use Rattle.std.proofs.Common.{◌≡◌, ◌⊎◌, ℕ, true, drop, length}
use Rattle.aps_core.specs.Seats.{IsRight, IsSeated}
use Rattle.aps_core.specs.Touched.{woke}
use Rattle.aps_core.proofs.machine.Machine.enter_woken.Given as goal

abbrev pub invariant-loop-x : goal.invariant-loop-x
invariant-loop-x l = record {
  own : (y : ℕ) → woke l.woken y ≡ true → (woke (drop l.x-index l.woken) y ≡ true) ⊎ IsRight l.self l.ready y;
  seated : (y : ℕ) → IsSeated l.self l.ready y;
  right : (y : ℕ) → IsRight l.self l.initial.ready y → IsRight l.self l.ready y;
  count : length l.ready ≡ length l.initial.ready;
}
