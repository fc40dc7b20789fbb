use Rattle.std.proofs.Common.{refl}
use Rattle.aps_window.specs.Slots.{no_slots}
use Rattle.aps_window.proofs.account.Account.new.Goals as goal

pub returns : goal.returns
unfolding no_slots
returns c = rw c.in_ok-empty_ring.ensures refl
