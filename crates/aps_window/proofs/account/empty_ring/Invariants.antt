use Rattle.std.proofs.Common.{◌≡◌, replicate}
use Rattle.aps_model.specs.Limits.{longest_window}
use Rattle.circular_buffer.specs.Buffer.{buffer}
use Rattle.aps_window.specs.Slots.{no_slot}
use Rattle.aps_window.proofs.account.empty_ring.Given as goal

abbrev pub invariant-loop-count : goal.invariant-loop-count
invariant-loop-count l = l.ring ≡ buffer (replicate l.count no_slot) longest_window
