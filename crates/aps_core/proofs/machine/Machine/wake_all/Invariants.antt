use Rattle.std.proofs.Common.{◌≡◌, ℕ, ◌+◌, take, drop, length, false}
use Rattle.aps_core.specs.Room.{HasRoomToWake, last_place, stamps_before}
use Rattle.aps_core.specs.Sleepers.{IsTimed}
use Rattle.aps_core.specs.Touched.{woke}
use Rattle.aps_core.proofs.Waking.{all_woken}
use Rattle.aps_core.proofs.machine.Machine.wake_all.Given as goal

abbrev pub invariant-loop-i : goal.invariant-loop-i
invariant-loop-i l = record {
  same : l.self ≡ all_woken l.scenario l.now l.initial.self (take l.i l.woken);
  room : HasRoomToWake (last_place + l.i) (stamps_before + l.i) l.self;
  count : length l.timer ≡ length l.self.threads;
  timed : (y : ℕ) → woke (drop l.i l.woken) y ≡ false → IsTimed l.self l.timer y;
}
