use Rattle.std.proofs.Common.{◌≡◌}
use Rattle.aps_window.specs.Slots.{slots_total}
use Rattle.aps_window.proofs.account.Account.resize.Given as goal

abbrev pub invariant-loop-age : goal.invariant-loop-age
invariant-loop-age l = l.total ≡ slots_total l.age l.self.ring.items
