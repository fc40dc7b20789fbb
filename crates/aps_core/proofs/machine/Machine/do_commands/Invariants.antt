use Rattle.std.proofs.Common.{◌≡◌, ◌≢◌, ℕ, length, false}
use Rattle.aps_ctl.specs.Pending.{all_at}
use Rattle.aps_core.specs.Calls.{AreInRange, all_done}
use Rattle.aps_core.specs.Counts.{Counts}
use Rattle.aps_core.proofs.machine.Machine.do_commands.Given as goal

abbrev pub invariant-loop-place : goal.invariant-loop-place
invariant-loop-place l = record {
  same : all_done l.entries l.tick l.self l.ctl ≡ all_done l.entries l.tick l.initial.self l.initial.ctl;
  others : (j : ℕ) → j ≢ l.tick → all_at j l.ctl ≡ all_at j l.initial.ctl;
  counts : Counts l.self.shape l.entries l.tick l.window;
  calls : AreInRange (all_at l.tick l.ctl);
  idle : l.commanded ≡ false → (l.self ≡ l.initial.self) × (l.window ≡ l.initial.window);
}

abbrev pub decreases-loop-place : goal.decreases-loop-place
decreases-loop-place l = length (all_at l.tick l.ctl)
